use Rattle.std.proofs.Common.{nat_le, List, length, ap, arith}
use Rattle.rsp_scope.specs.Lanes.{slots_of}
use Rattle.rsp_scope.specs.declared.item.Item.{Item}
use Rattle.rsp_scope.specs.declared.lanes.Slot.{Slot}
use Rattle.rsp_scope.proofs.LaneLaws.{lane-fits, slots-few}
use Rattle.rsp_scope.proofs.queue.close_up.Goals as goal

pub fill-requires : goal.fill-requires
fill-requires c s =
    let same = ap (λ (l : List Item). length (slots_of s 0 0 l)) c.let_go.ensures in
    let few = slots-few s (λ (item : Item). nat_le c.args.cut item.end) c.args.items.now.items in
    let filed = ap (λ (l : List Slot). length l) (c.requires.filed s) in
    let fits = lane-fits c.args.lanes.now.entries s in
    omega (arith, same, few, filed, fits)
