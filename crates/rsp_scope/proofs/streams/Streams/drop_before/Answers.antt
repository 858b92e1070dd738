use Rattle.std.proofs.Common.{nat_le, List, length, ap, subst, sym, ◌∙◌, arith}
use Rattle.rsp_scope.specs.Kept.{needed, triples_of}
use Rattle.rsp_scope.specs.Runs.{AreTied, from, one, over, triples}
use Rattle.rsp_scope.specs.declared.item.Item.{Item}
use Rattle.rsp_scope.proofs.Endings.{count-is, filter-most, needed-earlier, needed-later, tied-later, triples-from}
use Rattle.rsp_scope.proofs.streams.Streams.drop_before.Goals as goal

pub count-self-inside-requires : goal.count-self-inside-requires
count-self-inside-requires c =
    let kept = needed c.self.inside.cut c.self.inside.items.items in
    let tied = tied-later c.self.inside.ends.items c.drop_before.new.runs.items kept c.args.next c.self.invariant.tied c.drop_before.ensures in
    let same = ap (λ l. over one l) c.as_slice-then-self-next.ensures.value in
    let count = count-is c.drop_before.new.runs.items (needed c.args.next kept) tied in
    let most = filter-most (λ (item : Item). nat_le c.args.next item.end) kept in
    omega (arith, same, count, most, c.self.invariant.count)

pub close_up_if_sparse-requires-clause-count : goal.close_up_if_sparse-requires-clause-count
close_up_if_sparse-requires-clause-count c =
    let kept = needed c.self.inside.cut c.self.inside.items.items in
    let later = needed-later c.self.inside.cut c.args.next c.self.inside.items.items (omega (arith, c.if-self-next.true)) in
    let tied = tied-later c.self.inside.ends.items c.drop_before.new.runs.items kept c.args.next c.self.invariant.tied c.drop_before.ensures in
    c.count-self-inside.ensures
    ∙ (ap (λ l. over one l) c.as_slice-then-self-next.ensures.value
    ∙ (count-is c.drop_before.new.runs.items (needed c.args.next kept) tied ∙ ap (λ (l : List Item). length l) later))

pub invariant_of-self : goal.invariant_of-self
invariant_of-self c =
    let kept = needed c.self.inside.cut c.self.inside.items.items in
    let later = needed-later c.self.inside.cut c.args.next c.self.inside.items.items (omega (arith, c.if-self-next.true))
    ∙ sym c.close_up_if_sparse.ensures.kept in
    let tied = tied-later c.self.inside.ends.items c.drop_before.new.runs.items kept c.args.next c.self.invariant.tied c.drop_before.ensures in
    record {
      count = c.count-self-inside.ensures
          ∙ (ap (λ l. over one l) c.as_slice-then-self-next.ensures.value
          ∙ (count-is c.drop_before.new.runs.items (needed c.args.next kept) tied ∙ ap (λ (l : List Item). length l) later));
      held = c.triples_from-self-inside.ensures
          ∙ (ap (λ l. over (from c.args.next triples) l) c.as_slice.ensures.value
          ∙ (triples-from c.self.inside.ends.items kept c.args.next c.self.invariant.tied ∙ ap triples_of later));
      tied = subst (λ l. AreTied c.drop_before.new.runs.items l) later tied;
      order = c.close_up_if_sparse.ensures.order c.self.inside.accepted c.self.invariant.order;
      filed = c.close_up_if_sparse.ensures.filed;
      few = c.close_up_if_sparse.ensures.few;
    }

pub returns-then-self-next : goal.returns-then-self-next
returns-then-self-next c =
    let later = needed-later c.self.inside.cut c.args.next c.self.inside.items.items (omega (arith, c.if-self-next.true)) in
    rw (← c.self.view_is) (λ i. record { accepted = c.self.inside.accepted; items = (c.close_up_if_sparse.ensures.kept ∙ sym later) i })

pub returns-else-self-next : goal.returns-else-self-next
returns-else-self-next c =
    let same = needed-earlier c.self.inside.cut c.args.next c.self.inside.items.items (omega (arith, c.if-self-next.false)) in
    rw (← c.self.view_is) (λ i. record { accepted = c.self.inside.accepted; items = sym same i })
