use Rattle.std.proofs.Common.{◌≡◌, ◌++◌, map, drop}
use Rattle.rsp_expr.specs.Meanings.{formula_of}
use Rattle.rsp_written.specs.Building.{exprs_in, operands_in}
use Rattle.rsp_written.specs.Meanings.{expr_of, operand_of}
use Rattle.rsp_numbering.specs.ExpressionSteps.{behind_exprs, behind_operands, numbered_exprs, numbered_operands, with_aggregates_of_all, with_aggregates_of_row}
use Rattle.rsp_numbering.specs.Seeing.{aggregations_of, scopes_of, signed_formulas}
use Rattle.rsp_numbering.proofs.expressions.+numbering.Given as goal

abbrev pub invariant-all-loop-expression : goal.invariant-all-loop-expression
invariant-all-loop-expression l = record {
  formulas : map formula_of l.made.items ++ numbered_exprs (scopes_of l.at) l.before (exprs_in (map expr_of (drop l.expression-index l.expressions)))
      ≡ numbered_exprs (scopes_of l.at) l.fn.before (exprs_in (map expr_of l.expressions));
  behind : behind_exprs (scopes_of l.at) l.before (exprs_in (map expr_of (drop l.expression-index l.expressions)))
      ≡ behind_exprs (scopes_of l.at) l.fn.before (exprs_in (map expr_of l.expressions));
  aggregates : with_aggregates_of_all (scopes_of l.at) l.before (aggregations_of l.aggregates.items) (exprs_in (map expr_of (drop l.expression-index l.expressions)))
      ≡ with_aggregates_of_all (scopes_of l.at) l.fn.before (aggregations_of l.fn.aggregates.items) (exprs_in (map expr_of l.expressions));
}

abbrev pub invariant-operands-loop-operand : goal.invariant-operands-loop-operand
invariant-operands-loop-operand l = record {
  formulas : signed_formulas l.made.items ++ numbered_operands (scopes_of l.at) l.before (operands_in (map operand_of (drop l.operand-index l.written)))
      ≡ numbered_operands (scopes_of l.at) l.fn.before (operands_in (map operand_of l.written));
  behind : behind_operands (scopes_of l.at) l.before (operands_in (map operand_of (drop l.operand-index l.written)))
      ≡ behind_operands (scopes_of l.at) l.fn.before (operands_in (map operand_of l.written));
  aggregates : with_aggregates_of_row (scopes_of l.at) l.before (aggregations_of l.aggregates.items) (operands_in (map operand_of (drop l.operand-index l.written)))
      ≡ with_aggregates_of_row (scopes_of l.at) l.fn.before (aggregations_of l.fn.aggregates.items) (operands_in (map operand_of l.written));
}
