use Rattle.std.proofs.Common.{◌≡◌, ◌+◌, ◌*◌, ◌++◌, map, drop}
use Rattle.rsp_query.specs.Meanings as query
use Rattle.rsp_written.specs.Building.{elements_in, groups_in}
use Rattle.rsp_written.specs.GroupMeanings as written
use Rattle.rsp_numbering.specs.Seeing.{branches_of, scopes_of, written_branches_of}
use Rattle.rsp_numbering.specs.SelectionSteps.{behind_elements, behind_groups, groups_of, with_elements}
use Rattle.rsp_numbering.proofs.groups.+groups.Given as goal

abbrev pub invariant-put_elements-loop-element : goal.invariant-put_elements-loop-element
invariant-put_elements-loop-element l = record {
  parts : with_elements (scopes_of l.at) l.before (map query.part_of l.parts.items) (elements_in (map written.element_of (drop l.element-index l.elements)))
      ≡ with_elements (scopes_of l.at) l.fn.before (map query.part_of l.fn.parts.items) (elements_in (map written.element_of l.elements));
  behind : behind_elements (scopes_of l.at) l.before (elements_in (map written.element_of (drop l.element-index l.elements)))
      ≡ behind_elements (scopes_of l.at) l.fn.before (elements_in (map written.element_of l.elements));
}

abbrev pub invariant-groups-loop-branch : goal.invariant-groups-loop-branch
invariant-groups-loop-branch l = record {
  groups : branches_of l.made.items ++ groups_of (scopes_of l.at) l.before (groups_in (written_branches_of (drop l.branch-index l.branches)))
      ≡ groups_of (scopes_of l.at) l.fn.before (groups_in (written_branches_of l.branches));
  behind : behind_groups (scopes_of l.at) l.before (groups_in (written_branches_of (drop l.branch-index l.branches)))
      ≡ behind_groups (scopes_of l.at) l.fn.before (groups_in (written_branches_of l.branches));
}

abbrev pub decreases-put_element : goal.decreases-put_element
decreases-put_element l = 8 * goal.size-put_element l

abbrev pub decreases-put_elements : goal.decreases-put_elements
decreases-put_elements l = 8 * goal.size-put_elements l + 1

abbrev pub decreases-group : goal.decreases-group
decreases-group l = 8 * goal.size-group l + 2

abbrev pub decreases-put_optional : goal.decreases-put_optional
decreases-put_optional l = 8 * goal.size-put_optional l + 3

abbrev pub decreases-put_minus : goal.decreases-put_minus
decreases-put_minus l = 8 * goal.size-put_minus l + 3

abbrev pub decreases-put_union : goal.decreases-put_union
decreases-put_union l = 8 * goal.size-put_union l + 4

abbrev pub decreases-put_sub : goal.decreases-put_sub
decreases-put_sub l = 8 * goal.size-put_sub l + 3

abbrev pub decreases-put_graph : goal.decreases-put_graph
decreases-put_graph l = 8 * goal.size-put_graph l + 3

abbrev pub decreases-put_window : goal.decreases-put_window
decreases-put_window l = 8 * goal.size-put_window l + 3

abbrev pub decreases-put_exists : goal.decreases-put_exists
decreases-put_exists l = 8 * goal.size-put_exists l + 3

abbrev pub decreases-groups : goal.decreases-groups
decreases-groups l = 8 * goal.size-groups l + 3

abbrev pub decreases-select_within : goal.decreases-select_within
decreases-select_within l = 8 * goal.size-select_within l + 1

abbrev pub decreases-select : goal.decreases-select
decreases-select l = 8 * goal.size-select l + 2
