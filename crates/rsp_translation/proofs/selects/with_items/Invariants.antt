use Rattle.std.proofs.Common.{◌≡◌, map, drop}
use Rattle.rsp_query.specs.Meanings.{item_of}
use Rattle.rsp_algebra.specs.Meanings.{node_of}
use Rattle.rsp_translation.specs.Selects as selects
use Rattle.rsp_translation.proofs.selects.with_items.Given as goal

abbrev pub invariant-loop-item : goal.invariant-loop-item
invariant-loop-item l =
    selects.with_items (node_of l.whole) (map item_of (drop l.item-index l.items))
    ≡ selects.with_items (node_of l.fn.tree) (map item_of l.items)
