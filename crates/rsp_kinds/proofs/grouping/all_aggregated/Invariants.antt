use Rattle.std.proofs.Common.{List, ◌++◌, drop}
use Rattle.std.specs.List.{AllZip}
use Rattle.rsp_aggregates.specs.declared.folding.Folding.{Folding}
use Rattle.rsp_algebra.specs.Meanings.{aggregations_of}
use Rattle.rsp_groups.specs.declared.aggregated.Aggregated.{Aggregated}
use Rattle.rsp_kinds.specs.Aggregations.{IsAggregated}
use Rattle.rsp_kinds.specs.declared.expressions.Argument.{Argument}
use Rattle.rsp_kinds.proofs.grouping.all_aggregated.Given as goal

abbrev pub invariant-loop-entry : goal.invariant-loop-entry
invariant-loop-entry l =
    (rest : List (Aggregated Argument Folding)) → AllZip IsAggregated rest (aggregations_of (drop l.entry-index l.aggregates))
    → AllZip IsAggregated (l.made.items ++ rest) (aggregations_of l.aggregates)
