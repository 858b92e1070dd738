use Rattle.std.proofs.Common.{◌≡◌}
use Rattle.rsp_multiset.specs.Variables.{extension}
use Rattle.rsp_multiset.proofs.variables.extended_cells.Given as goal

abbrev pub invariant-loop-place : goal.invariant-loop-place
invariant-loop-place g l = l.cells.items ≡ extension l.place l.variable l.value l.row
