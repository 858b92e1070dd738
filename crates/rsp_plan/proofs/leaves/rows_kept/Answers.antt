use Rattle.std.proofs.Common.{◌≡◌, ◌≤◌, ◌+◌, length, drop, ap, ◌∙◌, arith}
use Rattle.rsp_multiset.specs.Rows.{Cells}
use Rattle.rsp_terms.specs.declared.term.Term.{Term}
use Rattle.rsp_simple_operators.proofs.Learning.{learnt-twice}
use Rattle.rsp_plan.proofs.RowsKept.{split-at, have-at, rows-next, rows-end}
use Rattle.rsp_plan.proofs.leaves.rows_kept.Goals as goal

pub add_row-requires-clause-wide : goal.add_row-requires-clause-wide
add_row-requires-clause-wide g c =
    ap length c.row-item.is ∙ have-at (λ (row : Cells Term). length row ≡ c.args.width) c.args.rows.now c.loop-row.row-index _ c.loop-row-test.true c.requires

pub loop-row-preserved : goal.loop-row-preserved
loop-row-preserved g c = (
  learnt-twice (g.D.Domain.knows c.args.domain.now) (g.D.Domain.knows c.loop-row.domain) (g.D.Domain.knows c.add_row.new.domain)
      (g.D.Domain.shown c.args.domain.now) (g.D.Domain.shown c.loop-row.domain) (g.D.Domain.shown c.add_row.new.domain) c.loop-row.invariant.0 c.add_row.ensures.known,
  c.in_ok-add_row.ensures.rows,
  λ q.
      rows-next (drop c.loop-row.row-index c.args.rows.now) (drop (c.loop-row.row-index + 1) c.args.rows.now) _ q _ _ _
      (split-at c.args.rows.now c.loop-row.row-index _ c.loop-row-test.true c.row-item.is) (c.in_ok-add_row.ensures.net q) (c.loop-row.invariant.2 q),
)

pub returns-clause-leads : goal.returns-clause-leads
returns-clause-leads g c = λ q.
    let past : length c.args.rows.now ≤ c.loop-row.row-index = grind arith in
    rows-end c.args.rows.now c.loop-row.row-index q _ past (c.loop-row.invariant.2 q)
