use Rattle.std.proofs.Common.{◌≡◌, ◌++◌, drop}
use Rattle.rsp_multiset.specs.Variables.{cells_at}
use Rattle.rsp_multiset.proofs.variables.moved_cells.Given as goal

abbrev pub invariant-loop-index : goal.invariant-loop-index
invariant-loop-index g l = l.cells.items ++ cells_at (drop l.index l.variables) l.row.items ≡ cells_at l.variables l.fn.row.items
