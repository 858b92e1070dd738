-- Definitions: the value of a formula in a row (SPARQL 1.1 Query, section 17), by cases over the values of its parts, and
-- whether a row passes a filter. None is an error; so is a variable that isn't bound.
use Rattle.std.specs.Prelude.{ℕ, Bool, false, Option, Some, None, is_some, unwrap_or, List, [], ◌∷◌, map, slice_index_or}
use Rattle.std.specs.Option.{option_and_then}
use Rattle.rsp_multiset.specs.Rows.{Cells}
use Rattle.rsp_terms.specs.declared.term.Term.{Term}
use Rattle.rsp_expr.specs.Booleans.{disjunction_of, conjunction_of, logical_not, truth_of, boolean_result}
use Rattle.rsp_expr.specs.Comparing.{comparison, membership}
use Rattle.rsp_expr.specs.Errors.{value_of_both}
use Rattle.rsp_expr.specs.Formulas as formula
use Rattle.rsp_expr.specs.Formulas.{Formula, Formulas, no_formula, formula_then}
use Rattle.rsp_expr.specs.Functions as functions

-- what a row binds a variable to
abbrev pub cell : Cells Term → ℕ → Option Term
cell row variable = slice_index_or row variable None

abbrev mutual
  pub value : Formula → Cells Term → Option Term
  value (formula.variable v) row = cell row v
  value (formula.constant term) row = Some term
  value (formula.disjunction parts) row = boolean_result (disjunction_of (map truth_of (values parts row)))
  value (formula.conjunction parts) row = boolean_result (conjunction_of (map truth_of (values parts row)))
  value (formula.negation part) row = boolean_result (logical_not (truth_of (value part row)))
  value (formula.comparison sign left right) row =
      boolean_result (value_of_both (comparison sign) (value left row) (value right row))
  value (formula.membership negated item list) row = boolean_result (membership negated (value item row) (values list row))
  value (formula.arithmetic sign left right) row = value_of_both (functions.arithmetic sign) (value left row) (value right row)
  value (formula.opposite part) row = option_and_then functions.unary_minus (value part row)
  value (formula.plus part) row = option_and_then functions.unary_plus (value part row)
  value (formula.bound v) row = boolean_result (Some (is_some (cell row v)))
  value (formula.call function arguments) row = functions.call_value function (values arguments row)

  pub values : Formulas → Cells Term → List (Option Term)
  values no_formula row = []
  values (formula_then first others) row = value first row ∷ values others row

-- the boolean value exists and is true (section 18.6, Filter)
abbrev pub truth : Formula → Cells Term → Bool
truth condition row = unwrap_or (truth_of (value condition row)) false
