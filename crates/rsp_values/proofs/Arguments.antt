-- Two and three arguments that are taken one by one give what the definition says of the list.
use Rattle.std.specs.Prelude.{◌≡◌, ◌≤◌, ◌<◌, Option, Some, None, List, [], ◌∷◌, length, refl}
use Rattle.std.specs.Option.{option_and_then}
use Rattle.std.proofs.Common.{ap, ◌∙◌, arith, get_or}
use Rattle.rsp_multiset.specs.Rows.{Cells}
use Rattle.rsp_terms.specs.declared.term.Term.{Term}
use Rattle.rsp_expr.specs.Errors.{all_values}
use Rattle.rsp_expr.specs.Meanings.{formula_of}
use Rattle.rsp_expr.specs.Functions.{function_value}
use Rattle.rsp_operands.specs.Operands.{binary_value, ternary_value}
use Rattle.rsp_expr.specs.Values.{value}
use Rattle.rsp_expr.specs.declared.expression.Expression.{Expression}
use Rattle.rsp_functions.specs.declared.function.Function.{Function}
use Rattle.rsp_values.specs.Parts.{argument_values, both_values, of_two, of_third}

of_two_arguments : (name : Function) (first second : Option Term)
    → of_two (binary_value name) (both_values first second)
    ≡ option_and_then (function_value name) (all_values (first ∷ (second ∷ [])))
of_two_arguments name None second = refl
of_two_arguments name (Some first) None = refl
of_two_arguments name (Some first) (Some second) = refl

of_three_arguments : (name : Function) (first second third : Option Term)
    → of_third (ternary_value name) (both_values first second) third
    ≡ option_and_then (function_value name) (all_values (first ∷ (second ∷ (third ∷ []))))
of_three_arguments name None second third = refl
of_three_arguments name (Some first) None third = refl
of_three_arguments name (Some first) (Some second) None = refl
of_three_arguments name (Some first) (Some second) (Some third) = refl

two_arguments : (name : Function) (arguments : List Expression) (row : Cells Term) (a b : Expression)
    → 2 ≤ length arguments → length arguments < 3 → a ≡ get_or arguments 0 a → b ≡ get_or arguments 1 b
    → of_two (binary_value name) (both_values (value (formula_of a) row) (value (formula_of b) row))
    ≡ option_and_then (function_value name) (all_values (argument_values arguments row))
two_arguments name [] row a b some few is_a is_b = absurd (omega (arith, some))
two_arguments name (x ∷ []) row a b some few is_a is_b = absurd (omega (arith, some))
two_arguments name (x ∷ (y ∷ [])) row a b some few is_a is_b =
    (λ i. of_two (binary_value name) (both_values (value (formula_of (is_a i)) row) (value (formula_of (is_b i)) row)))
    ∙ of_two_arguments name (value (formula_of x) row) (value (formula_of y) row)
two_arguments name (x ∷ (y ∷ (z ∷ others))) row a b some few is_a is_b = absurd (omega (arith, few))

pub two_give : (name : Function) (arguments : List Expression) (row : Cells Term) (a b : Expression) (first : Term)
    (both : Option (Term × Term)) → 2 ≤ length arguments → length arguments < 3
    → a ≡ get_or arguments 0 a → b ≡ get_or arguments 1 b
    → Some first ≡ value (formula_of a) row → both ≡ both_values (Some first) (value (formula_of b) row)
    → of_two (binary_value name) both ≡ option_and_then (function_value name) (all_values (argument_values arguments row))
two_give name arguments row a b first both some few is_a is_b is together =
    ap (of_two (binary_value name)) together
    ∙ ap (λ v. of_two (binary_value name) (both_values v (value (formula_of b) row))) is
    ∙ two_arguments name arguments row a b some few is_a is_b

three_arguments : (name : Function) (arguments : List Expression) (row : Cells Term) (a b c : Expression)
    → 3 ≤ length arguments → length arguments < 4 → a ≡ get_or arguments 0 a → b ≡ get_or arguments 1 b → c ≡ get_or arguments 2 c
    → of_third (ternary_value name) (both_values (value (formula_of a) row) (value (formula_of b) row)) (value (formula_of c) row)
    ≡ option_and_then (function_value name) (all_values (argument_values arguments row))
three_arguments name [] row a b c some few is_a is_b is_c = absurd (omega (arith, some))
three_arguments name (x ∷ []) row a b c some few is_a is_b is_c = absurd (omega (arith, some))
three_arguments name (x ∷ (y ∷ [])) row a b c some few is_a is_b is_c = absurd (omega (arith, some))
three_arguments name (x ∷ (y ∷ (z ∷ []))) row a b c some few is_a is_b is_c =
    (λ i. of_third (ternary_value name)
    (both_values (value (formula_of (is_a i)) row) (value (formula_of (is_b i)) row)) (value (formula_of (is_c i)) row))
    ∙ of_three_arguments name (value (formula_of x) row) (value (formula_of y) row) (value (formula_of z) row)
three_arguments name (x ∷ (y ∷ (z ∷ (w ∷ others)))) row a b c some few is_a is_b is_c = absurd (omega (arith, few))

pub three_give : (name : Function) (arguments : List Expression) (row : Cells Term) (a b c : Expression) (first : Term)
    (both : Option (Term × Term)) (third : Option Term) → 3 ≤ length arguments → length arguments < 4
    → a ≡ get_or arguments 0 a → b ≡ get_or arguments 1 b → c ≡ get_or arguments 2 c
    → Some first ≡ value (formula_of a) row → both ≡ both_values (Some first) (value (formula_of b) row)
    → third ≡ value (formula_of c) row
    → of_third (ternary_value name) both third
    ≡ option_and_then (function_value name) (all_values (argument_values arguments row))
three_give name arguments row a b c first both third some few is_a is_b is_c is together last =
    (λ i. of_third (ternary_value name) (together i) (last i))
    ∙ ap (λ v. of_third (ternary_value name) (both_values v (value (formula_of b) row)) (value (formula_of c) row)) is
    ∙ three_arguments name arguments row a b c some few is_a is_b is_c
