use Rattle.std.proofs.Common.{◌≡◌, ◌+◌, ◌*◌, map, drop}
use Rattle.rsp_query.specs.Groups.{groups_in, parts_in}
use Rattle.rsp_query.specs.Meanings.{part_of}
use Rattle.rsp_shapes.specs.Seeing.{branches_of}
use Rattle.rsp_shapes.specs.Walking as shapes
use Rattle.rsp_shapes.proofs.exists.+plain.Given as goal

abbrev pub invariant-are_plain-loop-element : goal.invariant-are_plain-loop-element
invariant-are_plain-loop-element l =
    shapes.are_plain (parts_in (map part_of (drop l.element-index l.elements)))
    ≡ shapes.are_plain (parts_in (map part_of l.elements))

abbrev pub invariant-are_plain_groups-loop-branch : goal.invariant-are_plain_groups-loop-branch
invariant-are_plain_groups-loop-branch l =
    shapes.are_plain_groups (groups_in (branches_of (drop l.branch-index l.branches)))
    ≡ shapes.are_plain_groups (groups_in (branches_of l.branches))

abbrev pub decreases-is_plain : goal.decreases-is_plain
decreases-is_plain l = 8 * goal.size-is_plain l

abbrev pub decreases-are_plain : goal.decreases-are_plain
decreases-are_plain l = 8 * goal.size-are_plain l + 1

abbrev pub decreases-are_plain_groups : goal.decreases-are_plain_groups
decreases-are_plain_groups l = 8 * goal.size-are_plain_groups l + 2
