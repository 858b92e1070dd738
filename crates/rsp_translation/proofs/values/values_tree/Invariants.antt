use Rattle.std.proofs.Common.{◌≡◌, ◌++◌, map, drop}
use Rattle.rsp_translation.specs.Trees as trees
use Rattle.rsp_translation.proofs.values.values_tree.Given as goal

abbrev pub invariant-loop-row : goal.invariant-loop-row
invariant-loop-row l =
    l.made.items ++ map (trees.values_row l.width l.variables) (drop l.row-index l.rows)
    ≡ map (trees.values_row l.width l.variables) l.rows
