use Rattle.std.proofs.Common.{◌≡◌, map}
use Rattle.std.specs.List.{fold}
use Rattle.std.specs.Vec.Iter.{into_iter_items}
use Rattle.rsp_algebra.specs.Nodes as node
use Rattle.rsp_algebra.specs.Meanings.{node_of}
use Rattle.rsp_translation.specs.Paths.{from_left}
use Rattle.rsp_translation.proofs.folding.unite_all.Given as goal

abbrev pub invariant-loop-tree : goal.invariant-loop-tree
invariant-loop-tree l =
    fold (node.of_two node.union) (node_of l.whole) (map node_of (into_iter_items l.tree-iterator)) ≡ from_left (node.of_two node.union) (map node_of l.fn.trees.items)
