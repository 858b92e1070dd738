-- Lists of arguments of other lengths than a function takes.
use Rattle.std.specs.Prelude.{◌≡◌, ◌≤◌, ◌==◌, false, Option, Some, None, List, [], ◌∷◌, length, refl}
use Rattle.std.specs.Option.{option_map, option_and_then}
use Rattle.std.proofs.Common.{ap, sym, ◌∙◌, true≢false, arith}
use Rattle.rsp_multiset.specs.Rows.{Cells}
use Rattle.rsp_terms.specs.declared.term.Term.{Term}
use Rattle.rsp_expr.specs.Errors.{all_values}
use Rattle.rsp_expr.specs.Functions.{function_value}
use Rattle.rsp_expr.specs.Meanings.{formula_of}
use Rattle.rsp_expr.specs.Comparing.{member_truth}
use Rattle.rsp_values.proofs.Connectives.{member_is}
use Rattle.rsp_values.specs.Parts.{argument_values, logical_or, membership_of, if_value}
use Rattle.rsp_expr.specs.Values.{value}
use Rattle.rsp_expr.specs.declared.expression.Expression.{Expression}
use Rattle.rsp_functions.specs.declared.function.Function.{Function}
use Rattle.rsp_functions.specs.declared.function.Function.TheVariants as function

-- an error is no member of a list that isn't empty
all_errors : (values : List (Option Term)) (value : Option Term) → membership_of None (value ∷ values) ≡ None
all_errors [] value = refl
all_errors (next ∷ values) value = ap (λ rest. logical_or None rest) (all_errors values next)

pub no_item : (list : List Expression) (row : Cells Term) → false ≡ (length list == 0) → None ≡ member_truth None (argument_values list row)
no_item [] row some = absurd (true≢false (sym some))
no_item (first ∷ others) row some =
    sym (all_errors (argument_values others row) (value (formula_of first) row))
    ∙ member_is None (argument_values (first ∷ others) row)

-- more than three arguments
pub choice_of_many : (arguments : List Expression) (row : Cells Term) → 4 ≤ length arguments
    → None ≡ if_value (argument_values arguments row)
choice_of_many [] row many = absurd (omega (arith, many))
choice_of_many (a ∷ []) row many = absurd (omega (arith, many))
choice_of_many (a ∷ (b ∷ [])) row many = absurd (omega (arith, many))
choice_of_many (a ∷ (b ∷ (c ∷ []))) row many = absurd (omega (arith, many))
choice_of_many (a ∷ (b ∷ (c ∷ (d ∷ others)))) row many = refl

of_four : (name : Function) (a b c d : Term) (others : List Term) → None ≡ function_value name (a ∷ b ∷ c ∷ d ∷ others)
of_four function.If a b c d others = refl
of_four function.Coalesce a b c d others = refl
of_four function.SameTerm a b c d others = refl
of_four function.IsIri a b c d others = refl
of_four function.IsUri a b c d others = refl
of_four function.IsBlank a b c d others = refl
of_four function.IsLiteral a b c d others = refl
of_four function.IsNumeric a b c d others = refl
of_four function.Str a b c d others = refl
of_four function.Lang a b c d others = refl
of_four function.Datatype a b c d others = refl
of_four function.Iri a b c d others = refl
of_four function.Uri a b c d others = refl
of_four function.StrDt a b c d others = refl
of_four function.StrLang a b c d others = refl
of_four function.StrLen a b c d others = refl
of_four function.Substr a b c d others = refl
of_four function.Contains a b c d others = refl
of_four function.StrStarts a b c d others = refl
of_four function.StrEnds a b c d others = refl
of_four function.StrBefore a b c d others = refl
of_four function.StrAfter a b c d others = refl
of_four function.Concat a b c d others = refl
of_four function.LangMatches a b c d others = refl
of_four function.Abs a b c d others = refl
of_four function.Ceil a b c d others = refl
of_four function.Floor a b c d others = refl
of_four function.Round a b c d others = refl

pub of_none : (name : Function) → None ≡ function_value name []
of_none function.If = refl
of_none function.Coalesce = refl
of_none function.SameTerm = refl
of_none function.IsIri = refl
of_none function.IsUri = refl
of_none function.IsBlank = refl
of_none function.IsLiteral = refl
of_none function.IsNumeric = refl
of_none function.Str = refl
of_none function.Lang = refl
of_none function.Datatype = refl
of_none function.Iri = refl
of_none function.Uri = refl
of_none function.StrDt = refl
of_none function.StrLang = refl
of_none function.StrLen = refl
of_none function.Substr = refl
of_none function.Contains = refl
of_none function.StrStarts = refl
of_none function.StrEnds = refl
of_none function.StrBefore = refl
of_none function.StrAfter = refl
of_none function.Concat = refl
of_none function.LangMatches = refl
of_none function.Abs = refl
of_none function.Ceil = refl
of_none function.Floor = refl
of_none function.Round = refl

four : (name : Function) (a b c d : Term) (others : Option (List Term))
    → None ≡ option_and_then (function_value name)
    (option_map (λ x. a ∷ x) (option_map (λ x. b ∷ x) (option_map (λ x. c ∷ x) (option_map (λ x. d ∷ x) others))))
four name a b c d None = refl
four name a b c d (Some others) = of_four name a b c d others

four_values : (name : Function) (a b c d : Option Term) (others : List (Option Term))
    → None ≡ option_and_then (function_value name) (all_values (a ∷ (b ∷ (c ∷ (d ∷ others)))))
four_values name None b c d others = refl
four_values name (Some a) None c d others = refl
four_values name (Some a) (Some b) None d others = refl
four_values name (Some a) (Some b) (Some c) None others = refl
four_values name (Some a) (Some b) (Some c) (Some d) others = four name a b c d (all_values others)

pub value_of_many : (name : Function) (arguments : List Expression) (row : Cells Term) → 4 ≤ length arguments
    → None ≡ option_and_then (function_value name) (all_values (argument_values arguments row))
value_of_many name [] row many = absurd (omega (arith, many))
value_of_many name (a ∷ []) row many = absurd (omega (arith, many))
value_of_many name (a ∷ (b ∷ [])) row many = absurd (omega (arith, many))
value_of_many name (a ∷ (b ∷ (c ∷ []))) row many = absurd (omega (arith, many))
value_of_many name (a ∷ (b ∷ (c ∷ (d ∷ others)))) row many =
    four_values name (value (formula_of a) row) (value (formula_of b) row) (value (formula_of c) row) (value (formula_of d) row)
    (argument_values others row)

-- less than three
pub choice_of_few : (arguments : List Expression) (row : Cells Term) → length arguments ≤ 2
    → None ≡ if_value (argument_values arguments row)
choice_of_few [] row few = refl
choice_of_few (a ∷ []) row few = refl
choice_of_few (a ∷ (b ∷ [])) row few = refl
choice_of_few (a ∷ (b ∷ (c ∷ others))) row few = absurd (omega (arith, few))
