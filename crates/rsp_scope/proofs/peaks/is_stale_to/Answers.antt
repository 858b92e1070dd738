use Rattle.std.proofs.Common.{rules, ◌≡◌, List, length, Bool, true, false, true≢false, not, refl, sym, ap, ◌∙◌, arith}
use Rattle.rsp_scope.specs.declared.lanes.Slot.{Slot}
use Rattle.rsp_scope.proofs.LaneLaws.{place-within, slot-is, slots-long}
use Rattle.rsp_scope.proofs.Orders.{stale-before}
use Rattle.rsp_scope.proofs.peaks.is_stale_to.Goals as goal

turned : (b : Bool) → not b ≡ true → b ≡ false
turned true h = absurd (true≢false (sym h))
turned false h = refl

pub index-requires : goal.index-requires
index-requires c =
    let long = ap (λ (l : List Slot). length l) c.requires.lane ∙ slots-long c.args.gate.now.stream 0 0 c.args.items.now.items in
    let place = slot-is c.args.gate.now.stream c.args.lane.now.items c.args.items.now.items c.args.index c.index-slot.result.now.place c.index-slot.result.now c.requires.lane c.requires.within c.index-slot.ensures in
    let low = place-within c.args.gate.now.stream c.args.items.now.items c.args.index c.index-slot.result.now.place (omega (arith, long, c.requires.within)) in
    omega (arith, place, low, c.args.items.now.ok.0)

pub returns : goal.returns
returns c stale k place item before =
    stale-before c.args.gate.now c.args.items.now.items c.args.lane.now.items c.args.index k place c.index-slot.result.now c.index.result.now item c.requires.numbers c.requires.lane c.requires.within (omega (arith, before))
    c.index-slot.ensures
    c.index.ensures
    (sym c.is_fresh.ensures ∙ turned c.is_fresh.result stale)
