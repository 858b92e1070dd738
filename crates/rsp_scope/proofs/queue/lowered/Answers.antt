use Rattle.std.proofs.Common.{nat_le, List, length, ap, subst, sym, ◌∙◌, arith}
use Rattle.rsp_scope.specs.Kept.{needed}
use Rattle.rsp_scope.specs.Order.{AreInOrder}
use Rattle.rsp_scope.specs.declared.item.Item.{Item}
use Rattle.rsp_scope.proofs.Endings.{filter-most, needed-earlier}
use Rattle.rsp_scope.proofs.Orders.{order-needed}
use Rattle.rsp_scope.proofs.queue.lowered.Goals as goal

pub returns-clause-few : goal.returns-clause-few
returns-clause-few c =
    let same = ap (λ (l : List Item). length l) c.close_up.ensures.items in
    omega (arith, same, filter-most (λ (item : Item). nat_le c.args.cut item.end) c.args.items.now.items)

pub returns-clause-kept : goal.returns-clause-kept
returns-clause-kept c =
    ap (λ l. needed c.args.end l) c.close_up.ensures.items ∙ needed-earlier c.args.cut c.args.end c.args.items.now.items (omega (arith, c.if-cut-end.false))

pub returns-clause-order : goal.returns-clause-order
returns-clause-order c accepted before =
    subst (λ items. AreInOrder accepted items) (sym c.close_up.ensures.items) (order-needed accepted c.args.cut c.args.items.now.items before)
