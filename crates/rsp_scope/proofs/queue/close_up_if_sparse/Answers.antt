use Rattle.std.proofs.Common.{rules, ◌≡◌, nat_le, length, ap, subst, sym, ◌∙◌, arith}
use Rattle.rsp_scope.specs.Kept.{needed}
use Rattle.rsp_scope.specs.Order.{AreInOrder}
use Rattle.rsp_scope.specs.declared.item.Item.{Item}
use Rattle.rsp_scope.proofs.Endings.{filter-most, needed-later}
use Rattle.rsp_scope.proofs.Orders.{order-needed}
use Rattle.rsp_scope.proofs.queue.close_up_if_sparse.Goals as goal

pub overflow_sub-len : goal.overflow_sub-len
overflow_sub-len c =
    let most = filter-most (λ (item : Item). nat_le c.args.cut item.end) c.args.items.now.items in
    let long : c.len.result ≡ length c.args.items.now.items = search rules in
    omega (arith, most, long, c.requires.count)

pub returns-then-count-len-clause-kept : goal.returns-then-count-len-clause-kept
returns-then-count-len-clause-kept c =
    ap (λ l. needed c.args.cut l) c.close_up.ensures.items ∙ needed-later c.args.cut c.args.cut c.args.items.now.items (omega arith)

pub returns-then-count-len-clause-order : goal.returns-then-count-len-clause-order
returns-then-count-len-clause-order c accepted before =
    subst (λ items. AreInOrder accepted items) (sym c.close_up.ensures.items) (order-needed accepted c.args.cut c.args.items.now.items before)
