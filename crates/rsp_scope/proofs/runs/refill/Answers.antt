use Rattle.std.proofs.Common.{rules, ◌<◌, length}
use Rattle.rsp_scope.proofs.Endings.{refilled}
use Rattle.rsp_scope.proofs.runs.refill.Goals as goal

pub loop-at-preserved : goal.loop-at-preserved
loop-at-preserved c =
    let below : c.loop-at.at < length c.loop-at.runs.items = search rules in
    refilled c.args.items.now.items c.loop-at.runs.items c.loop-at.at c.loop-at.start c.refill-start.result c.index_mut.result.now c.refill-start.new.self below c.index_mut.ensures.value
    c.loop-at.invariant.0
    c.loop-at.invariant.1
    c.refill-start.ensures.behind
    c.refill-start.ensures.same
    c.loop-at.invariant.2
