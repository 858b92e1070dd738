use Rattle.std.proofs.Common.{◌≡◌, ◌++◌, map}
use Rattle.std.specs.Vec.Iter.{into_iter_items}
use Rattle.rsp_algebra.specs.Meanings.{aggregations_of}
use Rattle.rsp_algebra.specs.Solutions.{with_aggregates}
use Rattle.rsp_eval.specs.Keys.{bucket_of}
use Rattle.rsp_eval.proofs.grouping.aggregate_groups.Given as goal

abbrev pub invariant-loop-key : goal.invariant-loop-key
invariant-loop-key l =
    l.made.items
    ++ map (λ key. with_aggregates l.width (aggregations_of l.aggregates) (bucket_of l.buckets key) key) (into_iter_items l.key-iterator)
    ≡ map (λ key. with_aggregates l.width (aggregations_of l.aggregates) (bucket_of l.buckets key) key) l.fn.keys.items
