-- The automaton of each kind accepts what is of its form.
use Rattle.std.proofs.Common.{◌≡◌, ℕ, List}
use Rattle.rsp_lex.specs.declared.token.TokenKind.{TokenKind}
use Rattle.rsp_lex.specs.declared.token.TokenKind.TheVariants as kind
use Rattle.rsp_lex.specs.Forms.{is_token}
use Rattle.rsp_lex.specs.Kinds.{accepted}
use Rattle.rsp_lex.proofs.NameForms.{word_form, variable_form, label_form, prefixed_form}
use Rattle.rsp_lex.proofs.NumberForms.{integer_form, decimal_form, double_form, span_form}
use Rattle.rsp_lex.proofs.QuotedForms.{iri_form, string_form}
use Rattle.rsp_lex.proofs.SymbolForms.{tag_form, symbol_form}

pub form_is : (kind : TokenKind) (cs : List ℕ) → accepted kind cs ≡ is_token kind cs
form_is kind.Iri = iri_form
form_is kind.Prefixed = prefixed_form
form_is kind.Label = label_form
form_is kind.Variable = variable_form
form_is kind.Span = span_form
form_is kind.Word = word_form
form_is kind.Tag = tag_form
form_is kind.Double = double_form
form_is kind.Decimal = decimal_form
form_is kind.Integer = integer_form
form_is kind.String = string_form
form_is kind.Symbol = symbol_form
