use Rattle.std.proofs.Common.{◌≡◌, ◌++◌, map, drop}
use Rattle.rsp_query.specs.Meanings.{item_of}
use Rattle.rsp_shapes.specs.Visible as visible
use Rattle.rsp_translation.proofs.selects.variables_of.Given as goal

abbrev pub invariant-loop-item : goal.invariant-loop-item
invariant-loop-item l =
    l.variables.items ++ visible.variables_of (map item_of (drop l.item-index l.items)) ≡ visible.variables_of (map item_of l.items)
