use Rattle.std.proofs.Common.{◌≡◌, drop}
use Rattle.rsp_algebra.specs.Meanings.{aggregations_of}
use Rattle.rsp_algebra.specs.Patterns.{among}
use Rattle.rsp_algebra.specs.Work.{group_variables}
use Rattle.rsp_variables.proofs.nodes.is_aggregate.Given as goal

abbrev pub invariant-loop-entry : goal.invariant-loop-entry
invariant-loop-entry l =
    among (group_variables (aggregations_of l.aggregates)) l.variable
    ≡ among (group_variables (aggregations_of (drop l.entry-index l.aggregates))) l.variable
