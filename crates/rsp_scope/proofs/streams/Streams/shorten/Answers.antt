use Rattle.std.proofs.Common.{rules, ◌≤◌, ℕ, nat_le, List, length, ap, subst, sym, ◌∙◌, arith}
use Rattle.rsp_scope.specs.Kept.{needed, shortened, triples_of}
use Rattle.rsp_scope.specs.Order.{AreInOrder}
use Rattle.rsp_scope.specs.Runs.{AreTied, from, over, triples}
use Rattle.rsp_scope.specs.declared.item.Item.{Item}
use Rattle.rsp_scope.specs.declared.lanes.Slot.{Slot}
use Rattle.rsp_scope.proofs.Endings.{count-is, filter-most, needed-zero, shortened-few, shortened-triples, triples-from}
use Rattle.rsp_scope.specs.Lanes.{slots_of}
use Rattle.rsp_scope.proofs.LaneLaws.{lane-fits, slots-few, slots-shortened}
use Rattle.rsp_scope.proofs.Orders.{order-needed, order-shortened}
use Rattle.rsp_scope.proofs.streams.Streams.shorten.Goals as goal

pub fill-requires : goal.fill-requires
fill-requires c s =
    let kept = needed c.self.inside.cut c.self.inside.items.items in
    let same = ap (λ (l : List Item). length (slots_of s 0 0 l)) (c.shorten_all.ensures ∙ ap (λ l. shortened l c.args.untils.now) c.close_up.ensures.items) in
    let few = slots-shortened s kept c.args.untils.now in
    let most = slots-few s (λ (item : Item). nat_le c.self.inside.cut item.end) c.self.inside.items.items in
    let filed = ap (λ (l : List Slot). length l) (c.self.invariant.filed s) in
    let fits = lane-fits c.self.inside.lanes.entries s in
    let room = c.close_up.ensures.lanes s in
    omega (arith, same, few, most, filed, fits, room)

pub refill-requires-clause-few : goal.refill-requires-clause-few
refill-requires-clause-few c =
    let kept = needed c.self.inside.cut c.self.inside.items.items in
    let short = c.shorten_all.ensures ∙ ap (λ l. shortened l c.args.untils.now) c.close_up.ensures.items in
    let same = ap (λ (l : List Item). length l) short in
    omega (arith, same, shortened-few kept c.args.untils.now, count-is c.self.inside.ends.items kept c.self.invariant.tied)

pub refill-requires-clause-light : goal.refill-requires-clause-light
refill-requires-clause-light c =
    let kept = needed c.self.inside.cut c.self.inside.items.items in
    let short = c.shorten_all.ensures ∙ ap (λ l. shortened l c.args.untils.now) c.close_up.ensures.items in
    let same = ap triples_of short in
    omega (arith, same, shortened-triples kept c.args.untils.now, c.self.invariant.held)

pub triples_from-self-inside-requires : goal.triples_from-self-inside-requires
triples_from-self-inside-requires c =
    let kept = needed c.self.inside.cut c.self.inside.items.items in
    let short = c.shorten_all.ensures ∙ ap (λ l. shortened l c.args.untils.now) c.close_up.ensures.items in
    let same = ap triples_of short in
    let runs = ap (λ l. over triples l) c.as_slice.ensures.value in
    let tied = c.refill.ensures triples in
    omega (arith, runs, tied, same, shortened-triples kept c.args.untils.now, c.self.invariant.held)

pub invariant_of-self : goal.invariant_of-self
invariant_of-self c =
    let kept = needed c.self.inside.cut c.self.inside.items.items in
    let short = c.shorten_all.ensures ∙ ap (λ l. shortened l c.args.untils.now) c.close_up.ensures.items in
    let all = needed-zero c.shorten_all.new.items.items in
    record {
      count = c.len-self-inside.ensures ∙ (c.shorten_all.new.items.ok.0 ∙ ap (λ (l : List Item). length l) (sym all));
      held = c.triples_from-self-inside.ensures
          ∙ (ap (λ l. over (from 0 triples) l) c.as_slice.ensures.value
          ∙ triples-from c.refill.new.runs.items c.shorten_all.new.items.items 0 c.refill.ensures);
      tied = subst (λ l. AreTied c.refill.new.runs.items l) (sym all) c.refill.ensures;
      order = subst (λ l. AreInOrder c.self.inside.accepted l) (sym short)
          (order-shortened c.self.inside.accepted kept c.args.untils.now
          (order-needed c.self.inside.accepted c.self.inside.cut c.self.inside.items.items c.self.invariant.order));
      filed = c.fill.ensures.filed;
      few = omega (arith, c.len-self-inside.ensures, c.shorten_all.new.items.ok.0);
    }

pub returns : goal.returns
returns c =
    let short = c.shorten_all.ensures ∙ ap (λ l. shortened l c.args.untils.now) c.close_up.ensures.items in
    rw (← c.self.view_is)
    (λ i. record { accepted = c.self.inside.accepted; items = (needed-zero c.shorten_all.new.items.items ∙ short) i })
