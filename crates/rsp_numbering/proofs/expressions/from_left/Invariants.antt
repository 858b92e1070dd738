use Rattle.std.proofs.Common.{◌≡◌}
use Rattle.rsp_expr.specs.Meanings.{formula_of}
use Rattle.rsp_numbering.specs.ExpressionSteps.{from_left}
use Rattle.rsp_numbering.specs.Seeing.{signed_formulas}
use Rattle.rsp_numbering.proofs.expressions.from_left.Given as goal

abbrev pub invariant-loop-sign : goal.invariant-loop-sign
invariant-loop-sign l =
    from_left (formula_of l.left) (signed_formulas l.sign-iterator.rest.items)
    ≡ from_left (formula_of l.fn.first) (signed_formulas l.fn.operands.items)
