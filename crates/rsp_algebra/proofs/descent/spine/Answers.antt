use Rattle.std.proofs.Common.{arith}
use Rattle.rsp_algebra.specs.declared.tree.Tree.{size-Tree}
use Rattle.rsp_algebra.proofs.Spines.{deeper, pushed_no_deeper}
use Rattle.rsp_algebra.proofs.descent.spine.Goals as goal

pub loop-child-preserved : goal.loop-child-preserved
loop-child-preserved c =
    let way = deeper
    c.args.tree.now
    c.loop-child.nodes.items
    c.push.new.self.items
    c.loop-child.end
    c.in-Some.child
    c.in_ok-push.ensures.items
    c.in-Some.ensures.child
    c.loop-child.invariant.0 in (
      way,
      (
        omega (arith, c.in-Some.ensures.smaller, c.loop-child.invariant.1.0),
        pushed_no_deeper
            (size-Tree c.args.tree.now)
            c.loop-child.nodes.items
            c.push.new.self.items
            c.loop-child.end
            c.in_ok-push.ensures.items
            c.loop-child.invariant.1.1
            c.loop-child.invariant.1.0,
      ),
    )
