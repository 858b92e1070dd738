use Rattle.std.proofs.Common.{◌≡◌, map, drop}
use Rattle.rsp_query.specs.Groups.{parts_in}
use Rattle.rsp_query.specs.Meanings.{part_of}
use Rattle.rsp_shapes.specs.Walking as shapes
use Rattle.rsp_shapes.proofs.exists.can_be_tested.Given as goal

abbrev pub invariant-loop-element : goal.invariant-loop-element
invariant-loop-element l =
    shapes.can_be_tested (parts_in (map part_of (drop l.element-index l.elements)))
    ≡ shapes.can_be_tested (parts_in (map part_of l.elements))
