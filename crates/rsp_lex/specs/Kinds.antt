-- Words of the way: one automaton that finds the longest token of each kind.
use Rattle.std.specs.Prelude.{ℕ, Bool, Option, List}
use Rattle.std.specs.Option.{option_map}
use Rattle.rsp_scan.specs.Machines.{Machine, accepts}
use Rattle.rsp_lex.specs.declared.token.TokenKind.{TokenKind}
use Rattle.rsp_lex.specs.declared.token.TokenKind.TheVariants as kind
use Rattle.rsp_lex.specs.declared.machine.State.{State}
use Rattle.rsp_lex.specs.declared.machine.State.TheVariants as state
use Rattle.rsp_lex.specs.declared.quoted.IriState.TheVariants as iri
use Rattle.rsp_lex.specs.declared.quoted.StringState.TheVariants as string
use Rattle.rsp_lex.specs.declared.names.WordState.TheVariants as word
use Rattle.rsp_lex.specs.declared.names.VariableState.TheVariants as variable
use Rattle.rsp_lex.specs.declared.names.LabelState.TheVariants as label
use Rattle.rsp_lex.specs.declared.names.PrefixedState.TheVariants as prefixed
use Rattle.rsp_lex.specs.declared.names.TagState.TheVariants as tag
use Rattle.rsp_lex.specs.declared.numbers.IntegerState.TheVariants as integer
use Rattle.rsp_lex.specs.declared.numbers.DecimalState.TheVariants as decimal
use Rattle.rsp_lex.specs.declared.numbers.DoubleState.TheVariants as double
use Rattle.rsp_lex.specs.declared.numbers.SpanState.TheVariants as span
use Rattle.rsp_lex.specs.declared.symbols.SymbolState.TheVariants as symbol
use Rattle.rsp_lex.specs.Quoted.{iri_step, iri_ends, string_step, string_ends}
use Rattle.rsp_lex.specs.Names.{word_step, word_ends, variable_step, variable_ends, label_step, label_ends, prefixed_step}
use Rattle.rsp_lex.specs.Names.{prefixed_ends, tag_step, tag_ends}
use Rattle.rsp_lex.specs.Numbers.{integer_step, integer_ends, decimal_step, decimal_ends, double_step, double_ends, span_step}
use Rattle.rsp_lex.specs.Numbers.{span_ends}
use Rattle.rsp_lex.specs.Symbols.{symbol_step, symbol_ends}

-- ---- one automaton for all kinds: where a kind starts, it goes on as its own

abbrev pub start : TokenKind → State
start kind.Iri = state.Iri iri.Start
start kind.Prefixed = state.Prefixed prefixed.Start
start kind.Label = state.Label label.Start
start kind.Variable = state.Variable variable.Start
start kind.Span = state.Span span.Start
start kind.Word = state.Word word.Start
start kind.Tag = state.Tag tag.Start
start kind.Double = state.Double double.Start
start kind.Decimal = state.Decimal decimal.Start
start kind.Integer = state.Integer integer.Start
start kind.String = state.String string.Start
start kind.Symbol = state.Symbol symbol.Start

abbrev pub step : State → ℕ → Option State
step (state.Iri inner) c = option_map (λ s. state.Iri s) (iri_step inner c)
step (state.Prefixed inner) c = option_map (λ s. state.Prefixed s) (prefixed_step inner c)
step (state.Label inner) c = option_map (λ s. state.Label s) (label_step inner c)
step (state.Variable inner) c = option_map (λ s. state.Variable s) (variable_step inner c)
step (state.Span inner) c = option_map (λ s. state.Span s) (span_step inner c)
step (state.Word inner) c = option_map (λ s. state.Word s) (word_step inner c)
step (state.Tag inner) c = option_map (λ s. state.Tag s) (tag_step inner c)
step (state.Double inner) c = option_map (λ s. state.Double s) (double_step inner c)
step (state.Decimal inner) c = option_map (λ s. state.Decimal s) (decimal_step inner c)
step (state.Integer inner) c = option_map (λ s. state.Integer s) (integer_step c)
step (state.String inner) c = option_map (λ s. state.String s) (string_step inner c)
step (state.Symbol inner) c = option_map (λ s. state.Symbol s) (symbol_step inner c)

abbrev pub ends : State → Bool
ends (state.Iri inner) = iri_ends inner
ends (state.Prefixed inner) = prefixed_ends inner
ends (state.Label inner) = label_ends inner
ends (state.Variable inner) = variable_ends inner
ends (state.Span inner) = span_ends inner
ends (state.Word inner) = word_ends inner
ends (state.Tag inner) = tag_ends inner
ends (state.Double inner) = double_ends inner
ends (state.Decimal inner) = decimal_ends inner
ends (state.Integer inner) = integer_ends inner
ends (state.String inner) = string_ends inner
ends (state.Symbol inner) = symbol_ends inner

abbrev pub token_machine : Machine State
token_machine = record { step = step; ends = ends }

-- what it accepts; `tokens` says in its clause `forms` that this is the kind's form
abbrev pub accepted : TokenKind → List ℕ → Bool
accepted kind cs = accepts token_machine (start kind) cs
