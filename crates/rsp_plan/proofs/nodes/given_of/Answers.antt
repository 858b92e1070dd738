use Rattle.std.proofs.Common.{sym, ◌∙◌}
use Rattle.rsp_algebra.specs.Meanings.{node_of}
use Rattle.rsp_plan.proofs.FromNodes.{given-made}
use Rattle.rsp_plan.proofs.nodes.given_of.Goals as goal

pub returns : goal.returns
returns c = λ stack.
    given-made c.args.width (node_of c.args.tree.now) stack c.new.result c.requires.given c.requires.fits c.new.ensures.width (λ facts. c.in_ok-given_rows.ensures facts ∙ sym c.new.ensures.rows)
