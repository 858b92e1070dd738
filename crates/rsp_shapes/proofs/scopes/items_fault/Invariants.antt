use Rattle.std.proofs.Common.{◌≡◌, [], map, take, drop}
use Rattle.rsp_query.specs.Groups.{parts_in}
use Rattle.rsp_query.specs.Meanings.{item_of, numbered_aggregation, part_of}
use Rattle.rsp_shapes.specs.Scopes as scopes
use Rattle.rsp_shapes.proofs.scopes.items_fault.Given as goal

abbrev pub invariant-loop-index : goal.invariant-loop-index
invariant-loop-index l =
    scopes.items_fault l.clauses.names.now (parts_in (map part_of l.clauses.body.now)) l.clauses.grouped
    (map item_of l.clauses.keys.now) (map numbered_aggregation l.clauses.aggregates.now)
    (map item_of (take l.index l.items)) (map item_of (drop l.index l.items))
    ≡ scopes.items_fault l.clauses.names.now (parts_in (map part_of l.clauses.body.now)) l.clauses.grouped
    (map item_of l.clauses.keys.now) (map numbered_aggregation l.clauses.aggregates.now) [] (map item_of l.items)
