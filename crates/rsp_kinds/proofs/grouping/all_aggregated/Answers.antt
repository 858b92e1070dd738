use Rattle.rsp_kinds.specs.Aggregations.{IsAggregated}
use Rattle.rsp_kinds.proofs.Zipped.{zip-end}
use Rattle.rsp_kinds.proofs.grouping.all_aggregated.Goals as goal

pub returns : goal.returns
returns c = zip-end IsAggregated _ c.loop-entry.made.items c.args.aggregates.now c.loop-entry.entry-index c.loop-entry-test.false c.loop-entry.invariant
