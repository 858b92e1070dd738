use Rattle.std.proofs.Common.{◌+◌, drop}
use Rattle.rsp_simple_operators.proofs.Learning.{learnt-twice}
use Rattle.rsp_plan.proofs.RowsKept.{cell-kept, split-at}
use Rattle.rsp_plan.proofs.leaves.kept_row.Goals as goal

pub loop-cell-preserved : goal.loop-cell-preserved
loop-cell-preserved g c =
    let knows0 = g.D.Domain.knows c.args.domain.now in
    let knows1 = g.D.Domain.knows c.loop-cell.domain in
    let knows2 = g.D.Domain.knows c.kept_cell.new.domain in
    let shown0 = g.D.Domain.shown c.args.domain.now in
    let shown1 = g.D.Domain.shown c.loop-cell.domain in
    let shown2 = g.D.Domain.shown c.kept_cell.new.domain in
    let more = cell-kept knows1 knows2 shown1 shown2 c.kept_cell.ensures.known c.loop-cell.kept.items c.push.new.self.items c.in_ok-kept_cell.field-0 _
    (drop c.loop-cell.cell-index c.args.cells.now) (drop (c.loop-cell.cell-index + 1) c.args.cells.now) c.args.cells.now
    c.in_ok-push.ensures.items c.loop-cell.invariant.1 c.in_ok-kept_cell.ensures.knows c.loop-cell.invariant.2
    (split-at c.args.cells.now c.loop-cell.cell-index _ c.loop-cell-test.true c.cell-item.is) c.in_ok-kept_cell.ensures.value in (
      learnt-twice knows0 knows1 knows2 shown0 shown1 shown2 c.loop-cell.invariant.0 c.kept_cell.ensures.known,
      more.0,
      more.1,
    )
