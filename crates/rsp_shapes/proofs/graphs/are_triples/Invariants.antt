use Rattle.std.proofs.Common.{◌≡◌, map, drop}
use Rattle.rsp_query.specs.Groups.{parts_in}
use Rattle.rsp_query.specs.Meanings.{part_of}
use Rattle.rsp_shapes.specs.Walking as shapes
use Rattle.rsp_shapes.proofs.graphs.are_triples.Given as goal

abbrev pub invariant-loop-element : goal.invariant-loop-element
invariant-loop-element l =
    shapes.are_triples (parts_in (map part_of (drop l.element-index l.elements)))
    ≡ shapes.are_triples (parts_in (map part_of l.elements))
