use Rattle.std.proofs.Common.{◌≡◌, ◌++◌, map, drop}
use Rattle.rsp_expr.specs.Meanings.{formula_of}
use Rattle.rsp_expr.proofs.expression.+sharing.Given as goal

abbrev pub invariant-share_all-loop-part : goal.invariant-share_all-loop-part
invariant-share_all-loop-part l =
    map formula_of l.others.items ++ map formula_of (drop l.part-index l.parts) ≡ map formula_of l.parts
