use Rattle.std.proofs.Common.{◌+◌, ◌*◌, Some, length}
use Rattle.rsp_algebra.specs.declared.tree.Tree.{size-Tree}
use Rattle.rsp_algebra.specs.Spines.{Leads, AreNoDeeper}
use Rattle.rsp_variables.specs.Binding.{Binds}
use Rattle.rsp_variables.proofs.tree.+bindings.Given as goal

-- the way leads to the tree whose binding was found
abbrev pub invariant-found_binding-loop-node : goal.invariant-found_binding-loop-node
invariant-found_binding-loop-node l =
    Leads (Some l.tree) l.nodes.items (Binds l.variable l.found)
    × AreNoDeeper (size-Tree l.tree) l.nodes.items

abbrev pub decreases-found_binding-loop-node : goal.decreases-found_binding-loop-node
decreases-found_binding-loop-node l = length l.nodes.items

abbrev pub decreases-found_binding : goal.decreases-found_binding
decreases-found_binding l = 2 * goal.size-found_binding l + 1

abbrev pub decreases-binding_above : goal.decreases-binding_above
decreases-binding_above l = 2 * goal.size-binding_above l
