use Rattle.std.proofs.Common.{drop}
use Rattle.std.specs.List.{AllByRecursion}
use Rattle.rsp_algebra.specs.Meanings.{aggregations_of}
use Rattle.rsp_algebra.specs.Fitting.{AggregateFits}
use Rattle.rsp_query_tests.proofs.fitting.aggregates_fit.Given as goal

abbrev pub invariant-loop-entry : goal.invariant-loop-entry
invariant-loop-entry l =
    AllByRecursion (AggregateFits l.width) (aggregations_of (drop l.entry-index l.aggregates))
    → AllByRecursion (AggregateFits l.width) (aggregations_of l.aggregates)
