use Rattle.std.proofs.Common.{◌≡◌, ◌++◌, map, drop}
use Rattle.rsp_algebra.specs.Solutions.{projection}
use Rattle.rsp_eval.proofs.projecting.project_rows.Given as goal

abbrev pub invariant-loop-row : goal.invariant-loop-row
invariant-loop-row l =
    l.projected_rows.items ++ map (projection l.width l.variables) (drop l.row-index l.rows)
    ≡ map (projection l.width l.variables) l.rows
