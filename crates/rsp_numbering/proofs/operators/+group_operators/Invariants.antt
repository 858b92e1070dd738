use Rattle.std.proofs.Common.{◌≡◌, ◌+◌, ◌*◌, map, drop}
use Rattle.rsp_written.specs.Building.{elements_in, groups_in}
use Rattle.rsp_written.specs.GroupMeanings as written
use Rattle.rsp_numbering.specs.Operators.{group_operators, groups_operators}
use Rattle.rsp_numbering.specs.Seeing.{written_branches_of}
use Rattle.rsp_numbering.proofs.operators.+group_operators.Given as goal

abbrev pub invariant-of_group-loop-element : goal.invariant-of_group-loop-element
invariant-of_group-loop-element l =
    l.count + group_operators (elements_in (map written.element_of (drop l.element-index l.elements)))
    ≡ group_operators (elements_in (map written.element_of l.elements))

abbrev pub invariant-of_groups-loop-branch : goal.invariant-of_groups-loop-branch
invariant-of_groups-loop-branch l =
    l.count + groups_operators (groups_in (written_branches_of (drop l.branch-index l.branches)))
    ≡ groups_operators (groups_in (written_branches_of l.branches))

abbrev pub decreases-of_element : goal.decreases-of_element
decreases-of_element l = 4 * goal.size-of_element l

abbrev pub decreases-of_group : goal.decreases-of_group
decreases-of_group l = 4 * goal.size-of_group l + 1

abbrev pub decreases-of_groups : goal.decreases-of_groups
decreases-of_groups l = 4 * goal.size-of_groups l + 2

abbrev pub decreases-of_select : goal.decreases-of_select
decreases-of_select l = 4 * goal.size-of_select l
