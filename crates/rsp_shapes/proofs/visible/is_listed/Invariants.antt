use Rattle.std.proofs.Common.{◌≡◌, map, drop}
use Rattle.rsp_query.specs.Meanings.{item_of}
use Rattle.rsp_algebra.specs.Patterns.{among}
use Rattle.rsp_shapes.specs.Visible.{variables_of}
use Rattle.rsp_shapes.proofs.visible.is_listed.Given as goal

abbrev pub invariant-loop-item : goal.invariant-loop-item
invariant-loop-item l =
    among (variables_of (map item_of (drop l.item-index l.items))) l.variable ≡ among (variables_of (map item_of l.items)) l.variable
