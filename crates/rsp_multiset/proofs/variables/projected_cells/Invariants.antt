use Rattle.std.proofs.Common.{◌≡◌}
use Rattle.rsp_multiset.specs.Variables.{projection}
use Rattle.rsp_multiset.proofs.variables.projected_cells.Given as goal

abbrev pub invariant-loop-variable : goal.invariant-loop-variable
invariant-loop-variable g l = l.cells.items ≡ projection l.variable l.variables l.row
