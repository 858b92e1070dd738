use Rattle.std.proofs.Common.{◌≡◌, ◌++◌, map, drop}
use Rattle.rsp_expr.specs.Meanings.{formula_of}
use Rattle.rsp_algebra.specs.Solutions.{extended_by}
use Rattle.rsp_eval.proofs.extending.extend_rows.Given as goal

abbrev pub invariant-loop-row : goal.invariant-loop-row
invariant-loop-row l =
    l.extended_rows.items ++ map (extended_by l.width l.variable (formula_of l.expression)) (drop l.row-index l.rows)
    ≡ map (extended_by l.width l.variable (formula_of l.expression)) l.rows
