use Rattle.std.proofs.Common.{◌≡◌, ◌+◌, ◌*◌, map, drop}
use Rattle.rsp_query.specs.Groups.{groups_in, parts_in}
use Rattle.rsp_query.specs.Meanings.{part_of}
use Rattle.rsp_shapes.specs.Seeing.{branches_of}
use Rattle.rsp_translation.specs.Begun as trees
use Rattle.rsp_translation.proofs.slashes.+slashes_in_groups.Given as goal

abbrev pub invariant-slashes_in-loop-element : goal.invariant-slashes_in-loop-element
invariant-slashes_in-loop-element l =
    l.number + trees.slashes_in (parts_in (map part_of (drop l.element-index l.body)))
    ≡ trees.slashes_in (parts_in (map part_of l.body))

abbrev pub invariant-slashes_in_branches-loop-branch : goal.invariant-slashes_in_branches-loop-branch
invariant-slashes_in_branches-loop-branch l =
    l.number + trees.slashes_among (groups_in (branches_of (drop l.branch-index l.branches)))
    ≡ trees.slashes_among (groups_in (branches_of l.branches))

abbrev pub decreases-slashes_of : goal.decreases-slashes_of
decreases-slashes_of l = 8 * goal.size-slashes_of l

abbrev pub decreases-slashes_in : goal.decreases-slashes_in
decreases-slashes_in l = 8 * goal.size-slashes_in l + 1

abbrev pub decreases-slashes_in_branches : goal.decreases-slashes_in_branches
decreases-slashes_in_branches l = 8 * goal.size-slashes_in_branches l + 2

abbrev pub decreases-slashes_within : goal.decreases-slashes_within
decreases-slashes_within l = 8 * goal.size-slashes_within l
