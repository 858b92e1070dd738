use Rattle.std.proofs.Common.{◌≡◌, ◌+◌, ◌*◌, map, drop}
use Rattle.rsp_query.specs.Groups.{groups_in, parts_in}
use Rattle.rsp_query.specs.Meanings.{part_of}
use Rattle.rsp_shapes.specs.Seeing.{branches_of}
use Rattle.rsp_shapes.specs.Walking.{exists_fault_in, exists_fault_among}
use Rattle.rsp_shapes.proofs.exists.+exists.Given as goal

abbrev pub invariant-fault_in-loop-element : goal.invariant-fault_in-loop-element
invariant-fault_in-loop-element l =
    exists_fault_in l.in_optional (parts_in (map part_of (drop l.element-index l.elements)))
    ≡ exists_fault_in l.in_optional (parts_in (map part_of l.elements))

abbrev pub invariant-fault_among-loop-branch : goal.invariant-fault_among-loop-branch
invariant-fault_among-loop-branch l =
    exists_fault_among (groups_in (branches_of (drop l.branch-index l.branches)))
    ≡ exists_fault_among (groups_in (branches_of l.branches))

abbrev pub decreases-fault_at : goal.decreases-fault_at
decreases-fault_at l = 8 * goal.size-fault_at l

abbrev pub decreases-fault_in : goal.decreases-fault_in
decreases-fault_in l = 8 * goal.size-fault_in l + 1

abbrev pub decreases-fault_among : goal.decreases-fault_among
decreases-fault_among l = 8 * goal.size-fault_among l + 2

abbrev pub decreases-fault_of : goal.decreases-fault_of
decreases-fault_of l = 8 * goal.size-fault_of l
