use Rattle.std.proofs.Common.{◌≡◌, ◌≤◌, Some}
use Rattle.rsp_algebra.specs.declared.tree.Tree.{size-Tree}
use Rattle.rsp_algebra.specs.Spines.{Leads, AreNoDeeper}
use Rattle.rsp_algebra.proofs.descent.spine.Given as goal

abbrev pub invariant-loop-child : goal.invariant-loop-child
invariant-loop-child l =
    Leads (Some l.tree) l.nodes.items (λ end. end ≡ l.end)
    × ((size-Tree l.end ≤ size-Tree l.tree) × AreNoDeeper (size-Tree l.tree) l.nodes.items)
