use Rattle.std.proofs.Common.{rules}
use Rattle.std.specs.Prelude.{nat_le}
use Rattle.std.proofs.lemmas.List.Sorted.{IsPartitionPoint-from_clause, IsPartitionedBy-leb}
use Rattle.rsp_engine.proofs.InOrder.{inserted_sorted}
use Rattle.rsp_engine.proofs.arrivals.place_of.Goals as goal

pub returns-clause-order : goal.returns-clause-order
returns-clause-order c =
    inserted_sorted c.args.times.now c.args.time c.partition_point.result c.requires c.partition_point.ensures.bound
    (IsPartitionPoint-from_clause (λ t. nat_le t c.args.time) _ _ c.partition_point.ensures.partitioned
    (IsPartitionedBy-leb (λ t. t) _ c.args.time c.requires) (λ a r q k. search rules))
