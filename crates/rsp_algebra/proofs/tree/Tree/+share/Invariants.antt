use Rattle.std.proofs.Common.{◌≡◌, ◌+◌, ◌*◌, Some, length}
use Rattle.rsp_algebra.specs.declared.tree.Tree.{size-Tree}
use Rattle.rsp_algebra.specs.Meanings.{node_of}
use Rattle.rsp_algebra.specs.Spines.{Leads, AreNoDeeper}
use Rattle.rsp_algebra.proofs.tree.Tree.+share.Given as goal

-- the way leads to a tree of the same node
abbrev pub invariant-share-loop-node : goal.invariant-share-loop-node
invariant-share-loop-node l =
    Leads (Some l.self) l.nodes.items (λ end. node_of l.tree ≡ node_of end)
    × AreNoDeeper (size-Tree l.self) l.nodes.items

abbrev pub decreases-share-loop-node : goal.decreases-share-loop-node
decreases-share-loop-node l = length l.nodes.items

abbrev pub decreases-share : goal.decreases-share
decreases-share l = 2 * goal.size-share l + 1

abbrev pub decreases-share_over : goal.decreases-share_over
decreases-share_over l = 2 * goal.size-share_over l
