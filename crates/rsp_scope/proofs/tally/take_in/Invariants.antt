use Rattle.std.proofs.Common.{◌≡◌, ℤ, ◌+ℤ◌, drop}
use Rattle.rsp_multiset.specs.Weights.{only, sum_z}
use Rattle.rsp_scope.specs.Kept.{needed}
use Rattle.rsp_scope.specs.Moves.{Moves, Placed, enters, placed_as}
use Rattle.rsp_scope.specs.declared.item.Item.{Item}
use Rattle.rsp_scope.proofs.LaneLaws.{at_slot}
use Rattle.rsp_scope.proofs.Orders.{passing}
use Rattle.rsp_scope.proofs.tally.take_in.Given as goal

abbrev pub invariant-loop-index : goal.invariant-loop-index
invariant-loop-index l = (l.tally.spot ≡ l.initial.tally.spot)
    × ((f : Placed → ℤ)
    → sum_z f l.tally.content.entries +ℤ sum_z (at_slot (passing l.gate l.cut f) l.items.items) (drop l.index l.lane.items)
    ≡ sum_z f l.initial.tally.content.entries +ℤ sum_z (λ (item : Item). only (enters l.gate item) (f (placed_as item))) (needed l.cut l.items.items))
    × Moves l.initial.tally.spot l.initial.tally.content.entries l.tally.content.entries l.initial.tally.counts l.tally.counts l.initial.change l.change
