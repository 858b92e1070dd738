use Rattle.std.proofs.Common.{◌≡◌, map, drop}
use Rattle.rsp_written.specs.Building.{exprs_in, operands_in}
use Rattle.rsp_written.specs.Meanings.{expr_of, operand_of}
use Rattle.rsp_numbering.specs.ExpressionSteps.{behind_exprs, behind_operands}
use Rattle.rsp_numbering.specs.Seeing.{scopes_of}
use Rattle.rsp_numbering.proofs.names.+names.Given as goal

abbrev pub invariant-of_expressions-loop-part : goal.invariant-of_expressions-loop-part
invariant-of_expressions-loop-part l =
    behind_exprs (scopes_of l.at) l.before (exprs_in (map expr_of (drop l.part-index l.parts)))
    ≡ behind_exprs (scopes_of l.at) l.fn.before (exprs_in (map expr_of l.parts))

abbrev pub invariant-of_operands-loop-operand : goal.invariant-of_operands-loop-operand
invariant-of_operands-loop-operand l =
    behind_operands (scopes_of l.at) l.before (operands_in (map operand_of (drop l.operand-index l.operands)))
    ≡ behind_operands (scopes_of l.at) l.fn.before (operands_in (map operand_of l.operands))
