use Rattle.std.proofs.Common.{◌≡◌, [], map, take, drop}
use Rattle.rsp_query.specs.Groups.{parts_in}
use Rattle.rsp_query.specs.Meanings.{item_of, part_of}
use Rattle.rsp_shapes.specs.Scopes as scopes
use Rattle.rsp_shapes.proofs.scopes.keys_fault.Given as goal

abbrev pub invariant-loop-index : goal.invariant-loop-index
invariant-loop-index l =
    scopes.keys_fault l.names (parts_in (map part_of l.body)) (map item_of (take l.index l.keys)) (map item_of (drop l.index l.keys))
    ≡ scopes.keys_fault l.names (parts_in (map part_of l.body)) [] (map item_of l.keys)
