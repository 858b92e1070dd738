use Rattle.std.proofs.Common.{rules, ◌≤◌, length}
use Rattle.std.specs.Vec.Iter.{into_iter_items}
use Rattle.rsp_modes.proofs.Streamed.{takes_next}
use Rattle.rsp_modes.proofs.run.RunFeedFeed.next.Goals as goal

pub returns-in-None-clause-left : goal.returns-in-None-clause-left
returns-in-None-clause-left g c =
    let feed = c.args.self.now in
    let past : length feed.files ≤ feed.file = search rules in
    takes_next feed.files feed.file feed.line (into_iter_items feed.batches) (into_iter_items c.next-batch.new.self) _ _ c.next-batch.result
    past
    feed.batches.rest.ok.0
    c.next-batch.new.self.rest.ok.0
    c.next-batch.ensures.cases
