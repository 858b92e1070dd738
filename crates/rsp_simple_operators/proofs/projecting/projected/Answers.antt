use Rattle.std.proofs.Common.{◌≤◌, ◌+◌, drop, length, arith}
use Rattle.rsp_multiset.specs.Variables.{projection}
use Rattle.rsp_simple_operators.proofs.Mapped.{made-next, made-end}
use Rattle.rsp_simple_operators.proofs.projecting.projected.Goals as goal

pub loop-index-preserved : goal.loop-index-preserved
loop-index-preserved g c = λ q.
    made-next g.V.PartialEq.eq (projection c.args.width c.args.variables.now)
    c.loop-index.net c.add.new.self (drop c.loop-index.index c.args.change.now) (drop (c.loop-index.index + 1) c.args.change.now)
    c.counted_at-count.result.0.now c.in_ok-projected.field-0 c.counted_at-count.result.1 _ q c.counted_at-count.ensures.rest c.in_ok-projected.ensures
    (c.in_ok-add.ensures.ok q) (c.loop-index.invariant q)

pub returns : goal.returns
returns g c = λ q.
    let past : length c.args.change.now ≤ c.loop-index.index = grind arith in
    made-end g.V.PartialEq.eq (projection c.args.width c.args.variables.now) c.loop-index.net c.args.change.now c.loop-index.index _ q past (c.loop-index.invariant q)
