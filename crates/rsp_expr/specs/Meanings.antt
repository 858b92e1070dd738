-- Words of the way: the formulas and aggregates that the code's trees are.
use Rattle.std.specs.Prelude.{Option, Some, None}
use Rattle.rsp_expr.specs.declared.expression.Expression.{Expression}
use Rattle.rsp_expr.specs.declared.expression.Expression.TheOpen.{Expression-F}
use Rattle.rsp_expr.specs.declared.expression.Expression.TheOpen as layer
use Rattle.rsp_expr.specs.declared.expression.Expression.TheFolds.{fold-Expression}
use Rattle.rsp_expr.specs.declared.aggregate.Aggregate.{Aggregate}
use Rattle.rsp_expr.specs.Formulas.{Formula, formulas_in, Aggregation}
use Rattle.rsp_expr.specs.Formulas as formula

-- a node of the code's tree whose parts are formulas already
abbrev pub formula_step : Expression-F Formula → Formula
formula_step (layer.Variable v) = formula.variable v
formula_step (layer.Constant term) = formula.constant term
formula_step (layer.Or parts) = formula.disjunction (formulas_in parts.items)
formula_step (layer.And parts) = formula.conjunction (formulas_in parts.items)
formula_step (layer.Not part) = formula.negation part.value
formula_step (layer.Compare sign left right) = formula.comparison sign left.value right.value
formula_step (layer.Member negated item list) = formula.membership negated item.value (formulas_in list.items)
formula_step (layer.Arithmetic sign left right) = formula.arithmetic sign left.value right.value
formula_step (layer.Negate part) = formula.opposite part.value
formula_step (layer.Plus part) = formula.plus part.value
formula_step (layer.Bound v) = formula.bound v
formula_step (layer.Call function arguments) = formula.call function (formulas_in arguments.items)

-- the formula that an expression of the code is
abbrev pub formula_of : Expression → Formula
formula_of = fold-Expression Formula formula_step

abbrev pub maybe_formula : Option Expression → Option Formula
maybe_formula None = None
maybe_formula (Some expression) = Some (formula_of expression)

abbrev pub aggregation_of : Aggregate → Aggregation
aggregation_of aggregate = record {
  kind = aggregate.kind;
  distinct = aggregate.distinct;
  argument = maybe_formula aggregate.argument;
}
