use Rattle.std.proofs.Common.{◌≡◌, ◌+◌, ◌*◌, map, drop}
use Rattle.rsp_query.specs.Groups.{groups_in, parts_in}
use Rattle.rsp_query.specs.Meanings.{part_of}
use Rattle.rsp_shapes.specs.Seeing.{branches_of}
use Rattle.rsp_shapes.specs.Visible.{is_visible_in as visible_in, is_visible_among as visible_among}
use Rattle.rsp_shapes.proofs.visible.+visible.Given as goal

abbrev pub invariant-is_visible_in-loop-element : goal.invariant-is_visible_in-loop-element
invariant-is_visible_in-loop-element l =
    visible_in l.names (parts_in (map part_of (drop l.element-index l.elements))) l.variable
    ≡ visible_in l.names (parts_in (map part_of l.elements)) l.variable

abbrev pub invariant-is_visible_among-loop-branch : goal.invariant-is_visible_among-loop-branch
invariant-is_visible_among-loop-branch l =
    visible_among l.names (groups_in (branches_of (drop l.branch-index l.branches))) l.variable
    ≡ visible_among l.names (groups_in (branches_of l.branches)) l.variable

abbrev pub decreases-is_visible : goal.decreases-is_visible
decreases-is_visible l = 8 * goal.size-is_visible l

abbrev pub decreases-is_visible_in : goal.decreases-is_visible_in
decreases-is_visible_in l = 8 * goal.size-is_visible_in l + 1

abbrev pub decreases-is_visible_at : goal.decreases-is_visible_at
decreases-is_visible_at l = 8 * goal.size-is_visible_at l + 2

abbrev pub decreases-is_visible_among : goal.decreases-is_visible_among
decreases-is_visible_among l = 8 * goal.size-is_visible_among l + 3

abbrev pub decreases-is_projected : goal.decreases-is_projected
decreases-is_projected l = 8 * goal.size-is_projected l
