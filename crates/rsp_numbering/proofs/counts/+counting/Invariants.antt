use Rattle.std.proofs.Common.{◌≡◌, ◌+◌, ◌*◌, map, drop}
use Rattle.rsp_written.specs.Building.{elements_in, groups_in}
use Rattle.rsp_written.specs.GroupMeanings as written
use Rattle.rsp_numbering.specs.Counting.{group_count, groups_count}
use Rattle.rsp_numbering.specs.Seeing.{written_branches_of}
use Rattle.rsp_numbering.proofs.counts.+counting.Given as goal

abbrev pub invariant-in_group-loop-element : goal.invariant-in_group-loop-element
invariant-in_group-loop-element l =
    l.total + group_count l.count (elements_in (map written.element_of (drop l.element-index l.elements)))
    ≡ group_count l.count (elements_in (map written.element_of l.elements))

abbrev pub invariant-in_groups-loop-branch : goal.invariant-in_groups-loop-branch
invariant-in_groups-loop-branch l =
    l.total + groups_count l.count (groups_in (written_branches_of (drop l.branch-index l.branches)))
    ≡ groups_count l.count (groups_in (written_branches_of l.branches))

abbrev pub decreases-in_element : goal.decreases-in_element
decreases-in_element l = 4 * goal.size-in_element l

abbrev pub decreases-in_group : goal.decreases-in_group
decreases-in_group l = 4 * goal.size-in_group l + 1

abbrev pub decreases-in_groups : goal.decreases-in_groups
decreases-in_groups l = 4 * goal.size-in_groups l + 2

abbrev pub decreases-in_select : goal.decreases-in_select
decreases-in_select l = 4 * goal.size-in_select l
