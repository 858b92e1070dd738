use Rattle.std.proofs.Common.{◌+◌, ◌≤◌, arith, length, subst}
use Rattle.rsp_engine.specs.declared.live_query.LiveQuery.{LiveQuery}
use Rattle.rsp_engine.specs.Sought.{IsSoonest, sooner}
use Rattle.rsp_engine.proofs.Soonest.{all_sooner, one_sooner}
use Rattle.rsp_engine.proofs.schedule.soonest.Goals as goal

pub loop-query-init : goal.loop-query-init
loop-query-init g c = λ k n d below at. absurd (omega (arith, below))

pub loop-query-preserved : goal.loop-query-preserved
loop-query-preserved g c =
    let queries = c.args.queries.now in
    let i = c.loop-query.query in
    rw c.sooner-best.ensures
    (subst (λ (live : LiveQuery g.row.A.Denot). IsSoonest (λ (live : LiveQuery g.row.A.Denot). live.due) queries (i + 1) c.args.next (sooner c.loop-query.best live.due i c.args.next))
    c.index-queries-query.is
    (one_sooner (λ live. live.due) queries c.args.next i c.index-queries-query.result c.loop-query-test.true
    c.index-queries-query.is c.loop-query.best c.loop-query.invariant))

pub returns : goal.returns
returns g c =
    let end : length c.args.queries.now ≤ c.loop-query.query = omega (arith, c.loop-query-test.false) in
    all_sooner (λ live. live.due) c.args.queries.now c.args.next c.loop-query.query c.loop-query.best end c.loop-query.invariant
