use Rattle.std.proofs.Common.{◌≡◌, map, drop}
use Rattle.rsp_query.specs.Meanings.{item_of}
use Rattle.rsp_shapes.specs.Scopes as scopes
use Rattle.rsp_shapes.proofs.known.is_computed.Given as goal

abbrev pub invariant-loop-item : goal.invariant-loop-item
invariant-loop-item l =
    scopes.is_computed (map item_of (drop l.item-index l.items)) l.variable ≡ scopes.is_computed (map item_of l.items) l.variable
