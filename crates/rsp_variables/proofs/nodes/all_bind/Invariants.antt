use Rattle.std.proofs.Common.{◌≡◌, is_some, drop}
use Rattle.std.specs.List.{list_all}
use Rattle.rsp_algebra.specs.Patterns.{cell}
use Rattle.rsp_variables.proofs.nodes.all_bind.Given as goal

abbrev pub invariant-loop-row : goal.invariant-loop-row
invariant-loop-row l =
    list_all (λ row. is_some (cell row l.variable)) l.rows ≡ list_all (λ row. is_some (cell row l.variable)) (drop l.row-index l.rows)
