use Rattle.std.proofs.Common.{rules, ◌+◌, ◌<◌, ◌≤◌, List, ◌+ℤ◌, drop, length, refl, sym, ap, subst, ◌∙◌, arith}
use Rattle.std.proofs.lemmas.List.{at_drop_more}
use Rattle.rsp_multiset.specs.Weights.{sum_z}
use Rattle.rsp_scope.specs.declared.lanes.Slot.{Slot}
use Rattle.rsp_scope.proofs.LaneLaws.{at_slot, place-within, placed-is, slot-is, slots-long}
use Rattle.rsp_scope.proofs.Tallies.{moved-none, moved-then, took-next}
use Rattle.rsp_scope.proofs.Orders.{fresh-kept, passing}
use Rattle.rsp_scope.proofs.tally.take_in.Goals as goal

pub loop-index-init : goal.loop-index-init
loop-index-init c = (
  refl,
  λ f.
      ap (λ s. sum_z f c.args.tally.now.content.entries +ℤ s)
      (ap (λ l. sum_z (at_slot (passing c.args.gate.now c.args.cut f) c.args.items.now.items) (drop c.args.start l)) c.requires.lane
      ∙ fresh-kept c.args.gate.now c.args.cut c.args.items.now.items c.args.start f c.requires.stale
      (subst (λ (l : List Slot). c.args.start ≤ length l) c.requires.lane c.requires.bound)),
  moved-none c.args.tally.now.spot c.args.tally.now.content.entries c.args.tally.now.counts c.args.change.now,
)

pub index-requires-in-loop-index : goal.index-requires-in-loop-index
index-requires-in-loop-index c =
    let below : c.loop-index.index < length c.args.lane.now.items = search rules in
    let long = ap (λ (l : List Slot). length l) c.requires.lane ∙ slots-long c.args.gate.now.stream 0 0 c.args.items.now.items in
    let place = slot-is c.args.gate.now.stream c.args.lane.now.items c.args.items.now.items c.loop-index.index c.index.result.now.place c.index.result.now c.requires.lane below c.index.ensures in
    let within = place-within c.args.gate.now.stream c.args.items.now.items c.loop-index.index c.index.result.now.place (omega (arith, below, long)) in
    omega (arith, within, place, c.args.items.now.ok.0)

pub loop-index-preserved : goal.loop-index-preserved
loop-index-preserved c =
    let below : c.loop-index.index < length c.args.lane.now.items = search rules in
    let long = ap (λ (l : List Slot). length l) c.requires.lane ∙ slots-long c.args.gate.now.stream 0 0 c.args.items.now.items in
    let place = slot-is c.args.gate.now.stream c.args.lane.now.items c.args.items.now.items c.loop-index.index c.index.result.now.place c.index.result.now c.requires.lane below c.index.ensures in
    let inside = place-within c.args.gate.now.stream c.args.items.now.items c.loop-index.index c.index.result.now.place (omega (arith, below, long)) in
    let within : c.index.result.now.place < length c.args.items.now.items = omega (arith, inside, place) in (
      c.in_ok-take_one.ensures.spot ∙ c.loop-index.invariant.0,
      λ f.
          let value = ap (at_slot (passing c.args.gate.now c.args.cut f) c.args.items.now.items) (sym c.index.ensures)
          ∙ placed-is (passing c.args.gate.now c.args.cut f) c.args.items.now.items c.index.result.now.place c.index-in-loop-index.result.now within c.index-in-loop-index.ensures
          in
          took-next _ _ _ _ _ _ (c.in_ok-take_one.ensures.content f)
          (at_drop_more (λ l. sum_z (at_slot (passing c.args.gate.now c.args.cut f) c.args.items.now.items) l) c.args.lane.now.items c.loop-index.index c.index.result.now below
          ∙ ap (λ n. n +ℤ sum_z (at_slot (passing c.args.gate.now c.args.cut f) c.args.items.now.items) (drop (c.loop-index.index + 1) c.args.lane.now.items)) value)
          (c.loop-index.invariant.1 f),
      moved-then c.args.tally.now.spot c.loop-index.tally.spot c.args.tally.now.content.entries c.loop-index.tally.content.entries c.take_one.new.tally.content.entries
          c.args.tally.now.counts
          c.loop-index.tally.counts
          c.take_one.new.tally.counts
          c.args.change.now
          c.loop-index.change
          c.take_one.new.change
          c.loop-index.invariant.0
          c.loop-index.invariant.2
          c.in_ok-take_one.ensures.moves,
    )
