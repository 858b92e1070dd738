use Rattle.std.proofs.Common.{◌≡◌, Some, sym, ap, ◌∙◌, arith}
use Rattle.rsp_algebra.specs.declared.tree.Tree.{size-Tree}
use Rattle.rsp_algebra.specs.Meanings.{node_of}
use Rattle.rsp_algebra.proofs.Spines.{leads_on, popped_no_deeper, node_over, node_taken}
use Rattle.rsp_algebra.proofs.tree.Tree.+share.Goals as goal

pub share-loop-node-init : goal.share-loop-node-init
share-loop-node-init t c = (
  leads_on
      (Some c.args.self.now)
      c.in_ok-nodes.nodes.items
      (λ end. end ≡ c.in_ok-nodes.leaf.now)
      (λ end. node_of c.in_ok-tree.tree ≡ node_of end)
      (λ end is. c.in_ok-tree.ensures ∙ ap node_of (sym is))
      c.in_ok-nodes.ensures.way,
  c.in_ok-nodes.ensures.deep,
)

pub share-share_over-requires : goal.share-share_over-requires
share-share_over-requires t c =
    let popped = popped_no_deeper
    (size-Tree c.args.self.now)
    c.loop-node.nodes.items
    c.pop.new.self.items
    c.in-Some.node
    c.in-Some.ensures.items
    c.loop-node.invariant.1 in
    let less = popped.1 in (
      omega (arith, c.decreases, less),
      node_over
          c.args.self.now
          c.loop-node.nodes.items
          c.pop.new.self.items
          c.in-Some.node
          (λ end. node_of c.loop-node.tree ≡ node_of end)
          c.in-Some.ensures.items
          c.loop-node.invariant.0,
    )

pub share-loop-node-preserved : goal.share-loop-node-preserved
share-loop-node-preserved t c =
    let popped = popped_no_deeper
    (size-Tree c.args.self.now)
    c.loop-node.nodes.items
    c.pop.new.self.items
    c.in-Some.node
    c.in-Some.ensures.items
    c.loop-node.invariant.1 in (
      node_taken
          c.args.self.now
          c.loop-node.nodes.items
          c.pop.new.self.items
          c.in-Some.node
          (λ end. node_of c.loop-node.tree ≡ node_of end)
          (λ end. node_of c.in_ok-tree-2.tree ≡ node_of end)
          c.in-Some.ensures.items
          c.loop-node.invariant.0
          c.in_ok-tree-2.ensures,
      popped.0,
    )
