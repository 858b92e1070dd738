use Rattle.std.proofs.Common.{rules, ◌≡◌}
use Rattle.std.specs.Ordering.{nat_cmp}
use Rattle.std.specs.declared.cmp.Ordering.TheVariants.{Equal}
use Rattle.rsp_expr.specs.Order.{term_rank}
use Rattle.rsp_expr.proofs.TermOrder.{order_total}
use Rattle.rsp_operands.proofs.TermOrder.{ordered_in_rank, same_in_rank}
use Rattle.rsp_operands.proofs.order.compare_terms.Goals as goal

pub returns-in-Less-clause-total : goal.returns-in-Less-clause-total
returns-in-Less-clause-total c = order_total

pub returns-in-Greater-clause-total : goal.returns-in-Greater-clause-total
returns-in-Greater-clause-total c = order_total

pub returns-in-Equal-clause-total : goal.returns-in-Equal-clause-total
returns-in-Equal-clause-total c = order_total

pub returns-in-Equal-clause-same : goal.returns-in-Equal-clause-same
returns-in-Equal-clause-same c =
    same_in_rank c.args.left.now c.args.right.now c.compare_within_rank.result
    c.rank.ensures.numbered c.rank-2.ensures.numbered
    c.compare_within_rank.ensures

pub returns-in-Equal-clause-order : goal.returns-in-Equal-clause-order
returns-in-Equal-clause-order c =
    let ranks : nat_cmp (term_rank c.args.left.now) (term_rank c.args.right.now) ≡ Equal = search rules in
    ordered_in_rank c.args.left.now c.args.right.now c.compare_within_rank.result
    c.rank.ensures.numbered c.rank-2.ensures.numbered ranks c.compare_within_rank.ensures
