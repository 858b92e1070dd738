use Rattle.std.proofs.Common.{◌≡◌, map}
use Rattle.std.specs.List.{range_with_len}
use Rattle.rsp_translation.specs.Trees as trees
use Rattle.rsp_translation.proofs.values.values_row.Given as goal

abbrev pub invariant-loop-variable : goal.invariant-loop-variable
invariant-loop-variable l = l.row.items ≡ map (trees.value_for l.variables l.cells) (range_with_len 0 l.variable)
