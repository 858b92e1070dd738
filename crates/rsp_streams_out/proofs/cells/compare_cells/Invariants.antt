use Rattle.std.proofs.Common.{◌≡◌, length}
use Rattle.std.specs.Cmp.Lexicographic.{slice_cmp}
use Rattle.rsp_streams_out.specs.Rows.{cell_order}
use Rattle.rsp_streams_out.proofs.cells.compare_cells.Given as goal

-- what is left compares as the whole rows do
abbrev pub invariant-cells : goal.invariant-cells
invariant-cells l = slice_cmp cell_order l.row l.other ≡ slice_cmp cell_order l.left l.right

abbrev pub decreases-cells : goal.decreases-cells
decreases-cells l = length l.left
