use Rattle.std.proofs.Common.{◌≤◌, ◌+◌, drop, length, arith}
use Rattle.rsp_simple_operators.proofs.Crossed.{kept-next, net-next, kept-end, net-end}
use Rattle.rsp_simple_operators.proofs.deduping.deduped.Goals as goal

pub loop-index-preserved : goal.loop-index-preserved
loop-index-preserved g c =
    let same = g.met.V.Cell.identical in
    let here = drop c.loop-index.index c.args.change.now in
    let rest = drop (c.loop-index.index + 1) c.args.change.now in (
      c.cross.ensures.changes,
      (λ q. kept-next same c.loop-index.kept c.cross.new.kept here rest c.counted_at-by.result.0.now c.counted_at-by.result.1 _ q c.counted_at-by.ensures.rest (c.in_ok-cross.ensures.kept q) (c.loop-index.invariant.1 q)),
      (λ q. net-next same c.loop-index.kept c.cross.new.kept c.loop-index.net c.cross.new.net here rest c.counted_at-by.result.0.now c.counted_at-by.result.1 _ q c.counted_at-by.ensures.rest
          (c.in_ok-cross.ensures.kept q) (c.in_ok-cross.ensures.net q) (c.loop-index.invariant.2 q)),
    )

pub returns-clause-kept : goal.returns-clause-kept
returns-clause-kept g c = λ q.
    let past : length c.args.change.now ≤ c.loop-index.index = grind arith in
    kept-end g.met.V.Cell.identical c.loop-index.kept c.args.change.now c.loop-index.index _ q past (c.loop-index.invariant.1 q)

pub returns-clause-net : goal.returns-clause-net
returns-clause-net g c = λ q.
    let past : length c.args.change.now ≤ c.loop-index.index = grind arith in
    net-end g.met.V.Cell.identical c.loop-index.kept c.loop-index.net c.args.change.now c.loop-index.index _ q past (c.loop-index.invariant.2 q)
