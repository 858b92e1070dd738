use Rattle.std.proofs.Common.{List, length, ap, subst, sym, ◌∙◌, arith}
use Rattle.rsp_scope.specs.Kept.{needed, triples_of}
use Rattle.rsp_scope.specs.Order.{AreInOrder}
use Rattle.rsp_scope.specs.Runs.{AreTied}
use Rattle.rsp_scope.specs.declared.item.Item.{Item}
use Rattle.rsp_scope.proofs.Endings.{needed-later}
use Rattle.rsp_scope.proofs.Orders.{order-needed}
use Rattle.rsp_scope.proofs.streams.Streams.settle.Goals as goal

pub invariant_of-self : goal.invariant_of-self
invariant_of-self c =
    let kept = ap (λ l. needed c.self.inside.cut l) c.close_up.ensures.items ∙ needed-later c.self.inside.cut c.self.inside.cut c.self.inside.items.items (omega arith) in
    record {
      count = c.self.invariant.count ∙ ap (λ (l : List Item). length l) (sym kept);
      held = c.self.invariant.held ∙ ap triples_of (sym kept);
      tied = subst (λ l. AreTied c.self.inside.ends.items l) (sym kept) c.self.invariant.tied;
      order = subst (λ l. AreInOrder c.self.inside.accepted l) (sym c.close_up.ensures.items)
          (order-needed c.self.inside.accepted c.self.inside.cut c.self.inside.items.items c.self.invariant.order);
      filed = c.tidy.ensures.filed;
      few = omega (arith, ap (λ (l : List Item). length l) c.close_up.ensures.items, c.self.invariant.count);
    }

pub returns : goal.returns
returns c =
    let kept = ap (λ l. needed c.self.inside.cut l) c.close_up.ensures.items ∙ needed-later c.self.inside.cut c.self.inside.cut c.self.inside.items.items (omega arith) in
    rw (← c.self.view_is) (λ i. record { accepted = c.self.inside.accepted; items = kept i })
