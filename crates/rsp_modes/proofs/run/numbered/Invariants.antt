use Rattle.std.proofs.Common.{◌≡◌, ◌++◌}
use Rattle.std.specs.Vec.Iter.{into_iter_items}
use Rattle.rsp_modes.specs.Summaries.{numbered}
use Rattle.rsp_modes.proofs.run.numbered.Given as goal

abbrev pub invariant-loop-event : goal.invariant-loop-event
invariant-loop-event l = l.blocks ++ numbered l.number (into_iter_items l.event-iterator) ≡ numbered l.first l.fn.events
