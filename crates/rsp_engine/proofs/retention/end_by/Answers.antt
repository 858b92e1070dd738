use Rattle.rsp_engine.proofs.KeptEnds.{end_more}
use Rattle.rsp_engine.proofs.retention.end_by.Goals as goal

pub loop-content-preserved : goal.loop-content-preserved
loop-content-preserved c graph =
    rw c.later-end.ensures
    (end_more c.args.contents.now c.loop-content.content-index c.content-item.result
    (record { number = c.args.number; item = record { stream = c.args.stream.now; time = c.args.time; graph = graph } })
    _ _ c.loop-content-test.true c.content-item.is (c.loop-content.invariant graph) (c.end_of.ensures graph))
