use Rattle.std.proofs.Common.{◌∙◌, sym}
use Rattle.rsp_variables.proofs.Given.{all-given}
use Rattle.rsp_variables.proofs.nodes.given_certain.Goals as goal

pub returns : goal.returns
returns c = c.all_bind.ensures ∙ all-given c.args.rows.now c.args.variable (sym c.is_empty.ensures ∙ c.if-is_empty.false)
