use Rattle.std.proofs.Common.{◌≡◌, ◌+◌, map, drop}
use Rattle.rsp_written.specs.Building.{exprs_in, operands_in}
use Rattle.rsp_written.specs.Meanings.{expr_of, operand_of}
use Rattle.rsp_numbering.specs.Operators.{operators_among, operators_behind}
use Rattle.rsp_numbering.proofs.operators.+operators.Given as goal

abbrev pub invariant-operators_among-loop-expression : goal.invariant-operators_among-loop-expression
invariant-operators_among-loop-expression l =
    l.count + operators_among l.signs (exprs_in (map expr_of (drop l.expression-index l.expressions)))
    ≡ operators_among l.signs (exprs_in (map expr_of l.expressions))

abbrev pub invariant-operators_behind-loop-operand : goal.invariant-operators_behind-loop-operand
invariant-operators_behind-loop-operand l =
    l.count + operators_behind (operands_in (map operand_of (drop l.operand-index l.operands)))
    ≡ operators_behind (operands_in (map operand_of l.operands))
