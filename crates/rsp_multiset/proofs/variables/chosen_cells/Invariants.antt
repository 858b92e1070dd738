use Rattle.std.proofs.Common.{◌≡◌, ◌++◌, drop}
use Rattle.rsp_multiset.specs.Variables.{cells_at}
use Rattle.rsp_multiset.proofs.variables.chosen_cells.Given as goal

abbrev pub invariant-loop-variable : goal.invariant-loop-variable
invariant-loop-variable g l = l.cells.items ++ cells_at (drop l.variable-index l.variables) l.row ≡ cells_at l.variables l.row
