use Rattle.std.proofs.Common.{◌≤◌, ◌+◌, drop, length, arith}
use Rattle.rsp_multiset.specs.Shown.{shown_row}
use Rattle.rsp_simple_operators.proofs.Filters.{kept-next, kept-end}
use Rattle.rsp_simple_operators.proofs.select.selected.Goals as goal

pub loop-index-preserved : goal.loop-index-preserved
loop-index-preserved g c = (
  λ q.
      kept-next g.met.D.Value.Cell.identical (λ row. g.C.Condition.test c.args.condition.now (shown_row (g.D.Domain.shown c.args.domain.now) row))
      c.loop-index.net c.add_where.new.net (drop c.loop-index.index c.args.change.now) (drop (c.loop-index.index + 1) c.args.change.now)
      c.counted_at-count.result.0.now c.counted_at-count.result.1 c.in_ok-passes.passes _ q c.counted_at-count.ensures.rest c.in_ok-passes.ensures
      (c.in_ok-add_where.ensures q) (c.loop-index.invariant.0 q),
  (rw c.counted_at-count.ensures.rest at c.loop-index.invariant.1).1,
)

pub returns-clause-kept : goal.returns-clause-kept
returns-clause-kept g c = λ q.
    let past : length c.args.change.now ≤ c.loop-index.index = grind arith in
    kept-end g.met.D.Value.Cell.identical (λ row. g.C.Condition.test c.args.condition.now (shown_row (g.D.Domain.shown c.args.domain.now) row))
    c.loop-index.net c.args.change.now c.loop-index.index _ q past (c.loop-index.invariant.0 q)
