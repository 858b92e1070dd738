use Rattle.std.proofs.Common.{◌≡◌, ◌≤◌, ◌+◌, ◌*◌}
use Rattle.rsp_algebra.specs.declared.tree.Tree.{size-Tree}
use Rattle.rsp_algebra.specs.Meanings.{node_of}
use Rattle.rsp_algebra.specs.Reading.{reads}
use Rattle.rsp_algebra.proofs.reading.+reads.Given as goal

-- what is left reads the fact exactly where the whole does
abbrev pub invariant-tree_reads-loop-first : goal.invariant-tree_reads-loop-first
invariant-tree_reads-loop-first l =
    (reads (node_of l.tree) l.fact ≡ reads (node_of l.at) l.fact)
    × (size-Tree l.at ≤ size-Tree l.tree)

abbrev pub decreases-tree_reads-loop-first : goal.decreases-tree_reads-loop-first
decreases-tree_reads-loop-first l = size-Tree l.at

abbrev pub decreases-tree_reads : goal.decreases-tree_reads
decreases-tree_reads l = 2 * goal.size-tree_reads l + 1

abbrev pub decreases-second_reads : goal.decreases-second_reads
decreases-second_reads l = 2 * goal.size-second_reads l
