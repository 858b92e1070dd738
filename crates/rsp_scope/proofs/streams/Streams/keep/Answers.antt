use Rattle.std.proofs.Common.{rules, ◌≡◌, ◌+◌, ◌^◌, ◌<◌, ◌≤◌, ◌++◌, ◌∷◌, [], nat_le, true, List, length, ap, subst, sym, ◌∙◌, le-leb, arith, Fits-le}
use Rattle.std.proofs.lemmas.Grind.{common_steps}
use Rattle.std.proofs.lemmas.List.{length-append}
use Rattle.rsp_scope.specs.Kept.{needed, triples_of}
use Rattle.rsp_scope.specs.Order.{AreInOrder}
use Rattle.rsp_scope.specs.Runs.{AreTied}
use Rattle.rsp_scope.specs.declared.item.Item.{Item}
use Rattle.rsp_scope.proofs.Endings.{filter-most, filter-push, tied-push, triples-push}
use Rattle.rsp_scope.specs.Lanes.{slots_of}
use Rattle.rsp_scope.proofs.LaneLaws.{filed-push}
use Rattle.rsp_scope.proofs.Orders.{order-pushed}
use Rattle.rsp_scope.proofs.streams.Streams.keep.Goals as goal

-- where memory is refused the queue may be closed up
pub invariant_of-self : goal.invariant_of-self
invariant_of-self c =
    let kept = ap (λ l. needed c.lowered-self-inside.result l) c.reserve.ensures.items ∙ c.lowered-self-inside.ensures.kept in
    record {
      count = c.self.invariant.count ∙ ap (λ (l : List Item). length l) (sym kept);
      held = c.self.invariant.held ∙ ap triples_of (sym kept);
      tied = subst (λ l. AreTied c.self.inside.ends.items l) (sym kept) c.self.invariant.tied;
      order = subst (λ l. AreInOrder c.self.inside.accepted l) (sym c.reserve.ensures.items) (c.lowered-self-inside.ensures.order c.self.inside.accepted c.self.invariant.order);
      filed = λ s. c.lowered-self-inside.ensures.filed s ∙ ap (λ l. slots_of s 0 0 l) (sym c.reserve.ensures.items);
      few = omega (arith, ap (λ (l : List Item). length l) c.reserve.ensures.items, c.lowered-self-inside.ensures.few, c.self.invariant.few);
    }

pub invariant_of-self-in_err-make_place : goal.invariant_of-self-in_err-make_place
invariant_of-self-in_err-make_place c =
    let kept = ap (λ l. needed c.lowered-self-inside.result l) c.reserve.ensures.items ∙ c.lowered-self-inside.ensures.kept in
    record {
      count = c.self.invariant.count ∙ ap (λ (l : List Item). length l) (sym kept);
      held = c.self.invariant.held ∙ ap triples_of (sym kept);
      tied = subst (λ l. AreTied c.self.inside.ends.items l) (sym kept) c.self.invariant.tied;
      order = subst (λ l. AreInOrder c.self.inside.accepted l) (sym c.reserve.ensures.items) (c.lowered-self-inside.ensures.order c.self.inside.accepted c.self.invariant.order);
      filed = λ s. c.make_place.ensures.same s ∙ (c.lowered-self-inside.ensures.filed s ∙ ap (λ l. slots_of s 0 0 l) (sym c.reserve.ensures.items));
      few = omega (arith, ap (λ (l : List Item). length l) c.reserve.ensures.items, c.lowered-self-inside.ensures.few, c.self.invariant.few);
    }

pub invariant_of-self-in_err-put : goal.invariant_of-self-in_err-put
invariant_of-self-in_err-put c =
    let kept = ap (λ l. needed c.lowered-self-inside.result l) c.reserve.ensures.items ∙ c.lowered-self-inside.ensures.kept in
    record {
      count = c.self.invariant.count ∙ ap (λ (l : List Item). length l) (sym kept);
      held = c.self.invariant.held ∙ ap triples_of (sym kept);
      tied = subst (λ l. AreTied c.put.new.runs.items l) (sym kept) (λ f. c.in_err-put.ensures.err f ∙ c.self.invariant.tied f);
      order = subst (λ l. AreInOrder c.self.inside.accepted l) (sym c.reserve.ensures.items) (c.lowered-self-inside.ensures.order c.self.inside.accepted c.self.invariant.order);
      filed = λ s. c.make_place.ensures.same s ∙ (c.lowered-self-inside.ensures.filed s ∙ ap (λ l. slots_of s 0 0 l) (sym c.reserve.ensures.items));
      few = omega (arith, ap (λ (l : List Item). length l) c.reserve.ensures.items, c.lowered-self-inside.ensures.few, c.self.invariant.few);
    }

pub overflow_add-self : goal.overflow_add-self
overflow_add-self c =
    let most = filter-most (λ (item : Item). nat_le c.self.inside.cut item.end) c.self.inside.items.items in
    let small : length c.self.inside.items.items < 2 ^ 63 = search rules in
    let bound : c.self.inside.count + 1 ≤ 2 ^ 63 = omega (arith, most, small, c.self.invariant.count) in
    Fits-le bound (search rules)

pub invariant_of-self-2 : goal.invariant_of-self-2
invariant_of-self-2 c =
    let before = needed c.self.inside.cut c.self.inside.items.items in
    let next : c.in-Some.accepted ≡ c.self.inside.accepted + 1 = grind (arith, common_steps) in
    let reached : nat_le c.lowered-self-inside.result c.args.item.end ≡ true = le-leb c.lowered-self-inside.result c.args.item.end c.lowered-self-inside.ensures.low in
    let kept : needed c.lowered-self-inside.result c.push_back_reserved.new.self.items ≡ before ++ c.args.item ∷ []
    = ap (λ l. needed c.lowered-self-inside.result l) c.push_back_reserved.ensures.items
    ∙ (filter-push (λ (item : Item). nat_le c.lowered-self-inside.result item.end) c.reserve.new.self.items c.args.item reached
    ∙ ap (λ l. l ++ c.args.item ∷ []) (ap (λ l. needed c.lowered-self-inside.result l) c.reserve.ensures.items ∙ c.lowered-self-inside.ensures.kept)) in
    let long = ap (λ (l : List Item). length l) kept in
    let heavy = ap triples_of kept in
    let more : c.in-Some-checked_add.held ≡ c.self.inside.held + length c.args.item.graph = grind (arith, common_steps) in
    record {
      count = omega (arith, long, length-append before (c.args.item ∷ []), c.self.invariant.count);
      held = omega (arith, heavy, more, triples-push before c.args.item, c.self.invariant.held);
      tied = subst (λ l. AreTied c.put.new.runs.items l) (sym kept)
          (tied-push c.self.inside.ends.items c.put.new.runs.items before c.args.item c.ending_of-ending.result c.ending_of-ending.ensures c.self.invariant.tied c.in_ok-put.ensures.ok);
      order = subst (λ l. AreInOrder c.in-Some.accepted l) (sym (c.push_back_reserved.ensures.items ∙ ap (λ l. l ++ c.args.item ∷ []) c.reserve.ensures.items))
          (order-pushed c.self.inside.accepted c.lowered-self-inside.new.items.items c.args.item c.in-Some.accepted next (rw (← c.self.view_is) at c.requires)
          (c.lowered-self-inside.ensures.order c.self.inside.accepted c.self.invariant.order));
      filed = λ s.
          filed-push c.make_place.new.lanes.entries c.file.new.lanes.entries c.reserve.new.self.items c.args.item c.len.result
          (λ t. c.make_place.ensures.same t ∙ (c.lowered-self-inside.ensures.filed t ∙ ap (λ l. slots_of t 0 0 l) (sym c.reserve.ensures.items)))
          (c.len.ensures ∙ c.reserve.new.self.ok.0)
          c.file.ensures.lane
          s
          ∙ ap (λ l. slots_of s 0 0 l) (sym c.push_back_reserved.ensures.items);
      few = omega (
        arith,
        ap (λ (l : List Item). length l) c.push_back_reserved.ensures.items,
        length-append c.reserve.new.self.items (c.args.item ∷ []),
        ap (λ (l : List Item). length l) c.reserve.ensures.items,
        c.lowered-self-inside.ensures.few,
        c.self.invariant.few,
      );
    }
