-- Definitions: the operators that compare (SPARQL 1.1 Query, sections 17.3 and 17.4.1). None is an error.
use Rattle.std.specs.Prelude.{ℕ, Bool, true, false, not, ◌&&◌, ◌||◌, if◌then◌else◌, Option, Some, None, option_map, List, map}
use Rattle.std.specs.Option.{option_or}
use Rattle.std.specs.Bool.{beq}
use Rattle.std.specs.Str.{bytes_eq}
use Rattle.std.specs.Ordering.{bool_cmp, is_eq, is_lt, is_gt, is_le, is_ge}
use Rattle.std.specs.declared.cmp.Ordering.{Ordering}
use Rattle.rsp_number.specs.Numbers as numbers
use Rattle.rsp_number.specs.declared.number.Number.{Number}
use Rattle.rsp_strings.specs.CodePoints as code_points
use Rattle.rsp_terms.specs.declared.term.Term.{Term}
use Rattle.rsp_terms.specs.declared.term.Term.TheVariants.{Literal, Tagged}
use Rattle.rsp_terms.specs.Same.{term_eq}
use Rattle.rsp_expr.specs.BooleanValues.{boolean_of}
use Rattle.rsp_expr.specs.Forms.{number_of}
use Rattle.rsp_expr.specs.Strings.{string_of, is_inexact}
use Rattle.rsp_expr.specs.Booleans.{disjunction_of, logical_not}
use Rattle.rsp_expr.specs.Errors.{value_of_both}
use Rattle.rsp_functions.specs.declared.function.Sign.{Sign}
use Rattle.rsp_functions.specs.declared.function.Sign.TheVariants as sign

-- what a literal is compared by
pub data Comparable : Type 0 where
  number : Number → Comparable
  string : List ℕ → Comparable
  boolean : Bool → Comparable

-- a number, an xsd:string, a boolean with the form
abbrev pub comparable_of : Term → Option Comparable
comparable_of term =
    option_or (option_map number (number_of term))
    (option_or (option_map string (string_of term)) (option_map boolean (boolean_of term)))

-- `=` on values; None where they are of two kinds
abbrev pub value_equality : Comparable → Comparable → Option Bool
value_equality (number left) (number right) = Some (is_eq (numbers.comparison left right))
value_equality (string left) (string right) = Some (bytes_eq left right)
value_equality (boolean left) (boolean right) = Some (beq left right)
value_equality left right = None

-- `<` and the like on values: numbers by value, strings by code points, false before true; None where they are of two
-- kinds
abbrev pub value_order : Comparable → Comparable → Option Ordering
value_order (number left) (number right) = Some (numbers.comparison left right)
value_order (string left) (string right) = Some (code_points.code_point_order left right)
value_order (boolean left) (boolean right) = Some (bool_cmp left right)
value_order left right = None

abbrev pub is_literal : Term → Bool
is_literal (Literal lexical datatype) = true
is_literal (Tagged lexical language) = true
is_literal _ = false

-- RDFterm-equal: true of one term, an error of two literals that differ, else false
abbrev pub term_equality : Term → Term → Option Bool
term_equality left right =
    if term_eq left right then Some true
    else if is_literal left && is_literal right then None
    else Some false

-- `=`: a double or a float is an error before anything else
abbrev pub equality : Term → Term → Option Bool
equality left right =
    if is_inexact left || is_inexact right then None
    else option_or (value_of_both value_equality (comparable_of left) (comparable_of right)) (term_equality left right)

-- how `<` and the like see two terms
abbrev pub comparison_order : Term → Term → Option Ordering
comparison_order left right = value_of_both value_order (comparable_of left) (comparable_of right)

-- the operators by their signs; a sign of arithmetic is an error
abbrev pub comparison : Sign → Term → Term → Option Bool
comparison sign.Equal left right = equality left right
comparison sign.NotEqual left right = option_map not (equality left right)
comparison sign.Less left right = option_map is_lt (comparison_order left right)
comparison sign.Greater left right = option_map is_gt (comparison_order left right)
comparison sign.LessEqual left right = option_map is_le (comparison_order left right)
comparison sign.GreaterEqual left right = option_map is_ge (comparison_order left right)
comparison _ left right = None

-- IN: the `||` of the `=` with each member
abbrev pub member_truth : Option Term → List (Option Term) → Option Bool
member_truth item members = disjunction_of (map (value_of_both equality item) members)

-- IN, and NOT IN where negated
abbrev pub membership : Bool → Option Term → List (Option Term) → Option Bool
membership negated item members =
    if negated then logical_not (member_truth item members) else member_truth item members
