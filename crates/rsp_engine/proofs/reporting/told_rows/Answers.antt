use Rattle.std.proofs.Common.{map}
use Rattle.std.proofs.lemmas.Result.{IfOk-weaker}
use Rattle.rsp_algebra.specs.Solutions.{eval}
use Rattle.rsp_algebra.proofs.SameFacts.{same_mapped, same_solutions}
use Rattle.rsp_engine.specs.Reports.{cells_at}
use Rattle.rsp_engine.proofs.OrderedRows.{no_rows}
use Rattle.rsp_engine.proofs.reporting.told_rows.Goals as goal

pub returns-in-Solutions : goal.returns-in-Solutions
returns-in-Solutions g c =
    let reads = rw c.in-Solutions.is at c.read_by.ensures in
    IfOk-weaker c.all_rows.result _ _
    (λ rows gives facts before preceding same changed behind. rw (reads preceding _ (λ first. rw first at behind)) (gives facts same))
    c.all_rows.ensures

pub returns-in-Change : goal.returns-in-Change
returns-in-Change g c =
    let live = c.args.live.now in
    let w = g.A.Answer.width live.answer in
    let n = g.A.Answer.node live.answer in
    let reads = rw c.in-Change.is at c.read_by.ensures in
    IfOk-weaker c.changed_rows.result _ _
    (λ rows gives facts before preceding same changed behind.
    let slice = rw c.as_slice.ensures at gives in
    let those = rw c.deref.ensures at slice in
    those before (eval w n (g.A.Answer.facts live.answer)) preceding _ changed (rw reads.1 at behind)
    (same_mapped (cells_at live.query.value.shown) _ _ (same_solutions w n (g.A.Answer.facts live.answer) facts same)))
    c.changed_rows.ensures

pub returns-in-Nothing : goal.returns-in-Nothing
returns-in-Nothing g c facts before preceding same changed behind =
    let live = c.args.live.now in
    let present = map (cells_at live.query.value.shown) (eval (g.A.Answer.width live.answer) (g.A.Answer.node live.answer) facts) in
    let reads = rw c.in-Nothing.is at c.read_by.ensures in
    rw c.new.ensures (no_rows live.operator preceding present (rw reads.0 at behind) (reads.1 present))
