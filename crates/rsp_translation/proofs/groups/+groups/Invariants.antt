use Rattle.std.proofs.Common.{◌≡◌, ◌+◌, ◌*◌, ◌++◌, map, drop}
use Rattle.std.specs.List.{fold}
use Rattle.rsp_query.specs.Groups.{groups_in, parts_in}
use Rattle.rsp_query.specs.Meanings.{part_of}
use Rattle.rsp_algebra.specs.Meanings.{node_of}
use Rattle.rsp_shapes.specs.Seeing.{branches_of}
use Rattle.rsp_translation.specs.Building.{bare, begun_of, fixed_by, tests_in}
use Rattle.rsp_translation.specs.Begun as trees
use Rattle.rsp_translation.proofs.groups.+groups.Given as goal

abbrev pub invariant-with_elements-loop-element : goal.invariant-with_elements-loop-element
invariant-with_elements-loop-element l =
    bare
    (trees.with_parts (fixed_by l.setting) l.place l.next (begun_of l.group) (parts_in (map part_of (drop l.element-index l.elements))))
    ≡ bare (trees.with_parts (fixed_by l.setting) l.place l.fresh trees.nothing (parts_in (map part_of l.elements)))

abbrev pub invariant-with_tests-loop-element : goal.invariant-with_tests-loop-element
invariant-with_tests-loop-element l =
    fold
    trees.tested
    (node_of l.whole)
    (tests_in (fixed_by l.setting) l.place l.next (parts_in (map part_of (drop l.element-index l.elements))))
    ≡ fold trees.tested (node_of l.fn.tree) (tests_in (fixed_by l.setting) l.place l.fresh (parts_in (map part_of l.elements)))

abbrev pub invariant-branch_trees-loop-branch : goal.invariant-branch_trees-loop-branch
invariant-branch_trees-loop-branch l =
    map node_of l.made.items
    ++ trees.group_nodes (fixed_by l.setting) l.place l.next (groups_in (branches_of (drop l.branch-index l.branches)))
    ≡ trees.group_nodes (fixed_by l.setting) l.place l.fresh (groups_in (branches_of l.branches))

abbrev pub decreases-element_tree : goal.decreases-element_tree
decreases-element_tree l = 8 * goal.size-element_tree l

abbrev pub decreases-with_element : goal.decreases-with_element
decreases-with_element l = 8 * goal.size-with_element l + 1

abbrev pub decreases-with_elements : goal.decreases-with_elements
decreases-with_elements l = 8 * goal.size-with_elements l + 2

abbrev pub decreases-elements_tree : goal.decreases-elements_tree
decreases-elements_tree l = 8 * goal.size-elements_tree l + 3

abbrev pub decreases-with_test : goal.decreases-with_test
decreases-with_test l = 8 * goal.size-with_test l

abbrev pub decreases-with_tests : goal.decreases-with_tests
decreases-with_tests l = 8 * goal.size-with_tests l + 1

abbrev pub decreases-group_tree : goal.decreases-group_tree
decreases-group_tree l = 8 * goal.size-group_tree l + 4

abbrev pub decreases-branch_trees : goal.decreases-branch_trees
decreases-branch_trees l = 8 * goal.size-branch_trees l + 5

abbrev pub decreases-select_tree : goal.decreases-select_tree
decreases-select_tree l = 8 * goal.size-select_tree l
