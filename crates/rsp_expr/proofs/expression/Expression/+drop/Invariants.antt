use Rattle.std.proofs.Common.{◌≤◌}
use Rattle.rsp_expr.specs.declared.expression.Expression.{size-Expression}
use Rattle.rsp_expr.proofs.expression.Expression.+drop.Given as goal

-- what is left is no deeper than the whole
abbrev pub invariant-left : goal.invariant-left
invariant-left l = size-Expression l.self ≤ size-Expression l.fn.self
