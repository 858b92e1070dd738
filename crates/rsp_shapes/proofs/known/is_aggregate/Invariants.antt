use Rattle.std.proofs.Common.{◌≡◌, map, drop, nat_eq}
use Rattle.std.specs.List.{list_any}
use Rattle.rsp_query.specs.Meanings.{numbered_aggregation}
use Rattle.rsp_shapes.proofs.known.is_aggregate.Given as goal

abbrev pub invariant-loop-aggregate : goal.invariant-loop-aggregate
invariant-loop-aggregate l =
    list_any (λ entry. nat_eq l.variable entry.0) (map numbered_aggregation (drop l.aggregate-index l.aggregates))
    ≡ list_any (λ entry. nat_eq l.variable entry.0) (map numbered_aggregation l.aggregates)
