use Rattle.std.proofs.Common.{◌≡◌, ◌++◌, drop}
use Rattle.rsp_algebra.specs.Meanings.{aggregations_of}
use Rattle.rsp_algebra.proofs.nodes.share_aggregates.Given as goal

abbrev pub invariant-loop-entry : goal.invariant-loop-entry
invariant-loop-entry l =
    aggregations_of l.others.items ++ aggregations_of (drop l.entry-index l.aggregates) ≡ aggregations_of l.aggregates
