use Rattle.std.proofs.Common.{◌≡◌, ◌<◌, drop, length, slice_index_or}
use Rattle.rsp_scope.specs.Kept.{needed}
use Rattle.rsp_scope.specs.declared.item.Item.{Item}
use Rattle.rsp_scope.proofs.queue.place.Given as goal

abbrev pub invariant-loop-at : goal.invariant-loop-at
invariant-loop-at l = (l.left < length (needed l.cut (drop l.at l.items.items)))
    × ((d : Item) → slice_index_or (needed l.cut (drop l.at l.items.items)) l.left d ≡ slice_index_or (needed l.cut l.items.items) l.index d)
