use Rattle.std.proofs.Common.{◌≡◌, Some, sym, subst, arith}
use Rattle.rsp_algebra.specs.declared.tree.Tree.{Tree, size-Tree}
use Rattle.rsp_algebra.proofs.Spines.{leads_on, popped_no_deeper, node_over, node_taken}
use Rattle.rsp_variables.specs.Binding.{Binds}
use Rattle.rsp_variables.proofs.tree.+bindings.Goals as goal

pub found_binding-loop-node-init : goal.found_binding-loop-node-init
found_binding-loop-node-init t c = (
  leads_on
      (Some c.args.tree.now)
      c.in_ok-nodes.nodes.items
      (λ end. end ≡ c.in_ok-nodes.leaf.now)
      (Binds c.args.variable c.leaf_binding-found.result)
      (λ end is. subst (λ (e : Tree). Binds c.args.variable c.leaf_binding-found.result e) (sym is) c.leaf_binding-found.ensures)
      c.in_ok-nodes.ensures.way,
  c.in_ok-nodes.ensures.deep,
)

pub found_binding-binding_above-requires : goal.found_binding-binding_above-requires
found_binding-binding_above-requires t c =
    let popped = popped_no_deeper
    (size-Tree c.args.tree.now)
    c.loop-node.nodes.items
    c.pop.new.self.items
    c.in-Some.node
    c.in-Some.ensures.items
    c.loop-node.invariant.1 in
    let less = popped.1 in (
      omega (arith, c.decreases, less),
      node_over
          c.args.tree.now
          c.loop-node.nodes.items
          c.pop.new.self.items
          c.in-Some.node
          (Binds c.args.variable c.loop-node.found)
          c.in-Some.ensures.items
          c.loop-node.invariant.0,
    )

pub found_binding-loop-node-preserved : goal.found_binding-loop-node-preserved
found_binding-loop-node-preserved t c =
    let popped = popped_no_deeper
    (size-Tree c.args.tree.now)
    c.loop-node.nodes.items
    c.pop.new.self.items
    c.in-Some.node
    c.in-Some.ensures.items
    c.loop-node.invariant.1 in (
      node_taken
          c.args.tree.now
          c.loop-node.nodes.items
          c.pop.new.self.items
          c.in-Some.node
          (Binds c.args.variable c.loop-node.found)
          (Binds c.args.variable c.in_ok-found.found)
          c.in-Some.ensures.items
          c.loop-node.invariant.0
          c.in_ok-found.ensures,
      popped.0,
    )
