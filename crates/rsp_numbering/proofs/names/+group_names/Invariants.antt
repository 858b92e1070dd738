use Rattle.std.proofs.Common.{◌≡◌, ◌+◌, ◌*◌, map, drop}
use Rattle.rsp_written.specs.Building.{elements_in, groups_in}
use Rattle.rsp_written.specs.GroupMeanings as written
use Rattle.rsp_numbering.specs.Seeing.{scopes_of, written_branches_of}
use Rattle.rsp_numbering.specs.SelectionSteps.{behind_elements, behind_groups}
use Rattle.rsp_numbering.proofs.names.+group_names.Given as goal

abbrev pub invariant-of_group-loop-element : goal.invariant-of_group-loop-element
invariant-of_group-loop-element l =
    behind_elements (scopes_of l.at) l.before (elements_in (map written.element_of (drop l.element-index l.elements)))
    ≡ behind_elements (scopes_of l.at) l.fn.before (elements_in (map written.element_of l.elements))

abbrev pub invariant-of_groups-loop-branch : goal.invariant-of_groups-loop-branch
invariant-of_groups-loop-branch l =
    behind_groups (scopes_of l.at) l.before (groups_in (written_branches_of (drop l.branch-index l.branches)))
    ≡ behind_groups (scopes_of l.at) l.fn.before (groups_in (written_branches_of l.branches))

abbrev pub decreases-of_element : goal.decreases-of_element
decreases-of_element l = 8 * goal.size-of_element l

abbrev pub decreases-of_group : goal.decreases-of_group
decreases-of_group l = 8 * goal.size-of_group l + 1

abbrev pub decreases-of_groups : goal.decreases-of_groups
decreases-of_groups l = 8 * goal.size-of_groups l + 2

abbrev pub decreases-in_select : goal.decreases-in_select
decreases-in_select l = 8 * goal.size-in_select l + 1

abbrev pub decreases-of_select : goal.decreases-of_select
decreases-of_select l = 8 * goal.size-of_select l + 2
