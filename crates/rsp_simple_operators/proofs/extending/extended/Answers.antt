use Rattle.std.proofs.Common.{◌≤◌, ◌+◌, drop, length, arith}
use Rattle.rsp_simple_operators.proofs.Extended.{alike-twice, extended-fits, extended-next, extended-end}
use Rattle.rsp_simple_operators.proofs.extending.extended.Goals as goal

pub loop-index-preserved : goal.loop-index-preserved
loop-index-preserved g c =
    let same = g.met.D.Value.Cell.identical in
    let of = g.E.Computed.of c.args.computed.now in
    let knows0 = g.D.Domain.knows c.args.domain.now in
    let knows1 = g.D.Domain.knows c.loop-index.domain in
    let knows2 = g.D.Domain.knows c.value.new.domain in
    let shown0 = g.D.Domain.shown c.args.domain.now in
    let shown1 = g.D.Domain.shown c.loop-index.domain in
    let shown2 = g.D.Domain.shown c.value.new.domain in
    let here = drop c.loop-index.index c.args.change.now in
    let rest = drop (c.loop-index.index + 1) c.args.change.now in
    let known = rw c.counted_at-count.ensures.rest at c.loop-index.invariant.3 in (
      c.add.ensures.changes,
      alike-twice same c.args.width c.args.variable of knows0 knows1 knows2 shown0 shown1 shown2 c.loop-index.invariant.1 c.value.ensures.known,
      extended-fits same c.args.width c.args.variable of knows0 knows1 knows2 shown0 shown1 shown2 c.loop-index.invariant.1 c.value.ensures.known
          c.loop-index.net c.add.new.self here rest c.counted_at-count.result.0.now c.in_ok-extended.field-0 c.in_ok-value.value c.counted_at-count.result.1 c.counted_at-count.ensures.rest c.in_ok-extended.ensures
          c.in_ok-value.ensures.value c.in_ok-value.ensures.knows c.in_ok-add.ensures.ok known.0 c.loop-index.invariant.0 c.loop-index.invariant.2,
      known.1,
      (λ q. extended-next same c.args.width c.args.variable of knows0 knows1 knows2 shown0 shown1 shown2 c.loop-index.invariant.1 c.value.ensures.known
          c.loop-index.net c.add.new.self here rest c.counted_at-count.result.0.now c.in_ok-extended.field-0 c.in_ok-value.value c.counted_at-count.result.1 c.counted_at-count.ensures.rest c.in_ok-extended.ensures
          c.in_ok-value.ensures.value c.in_ok-value.ensures.knows c.in_ok-add.ensures.ok known.0 c.loop-index.invariant.0 c.loop-index.invariant.2 q _ (c.loop-index.invariant.4 q)),
    )

pub returns-clause-net : goal.returns-clause-net
returns-clause-net g c = λ q.
    let past : length c.args.change.now ≤ c.loop-index.index = grind arith in
    extended-end _ c.args.change.now c.loop-index.index _ _ past (c.loop-index.invariant.4 q)
