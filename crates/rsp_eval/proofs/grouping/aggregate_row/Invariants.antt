use Rattle.std.proofs.Common.{◌≡◌, drop}
use Rattle.rsp_algebra.specs.Meanings.{aggregations_of}
use Rattle.rsp_algebra.specs.Solutions.{with_aggregates}
use Rattle.rsp_eval.proofs.grouping.aggregate_row.Given as goal

abbrev pub invariant-loop-entry : goal.invariant-loop-entry
invariant-loop-entry l =
    with_aggregates l.width (aggregations_of (drop l.entry-index l.aggregates)) l.rows l.row
    ≡ with_aggregates l.width (aggregations_of l.aggregates) l.rows l.fn.key
