use Rattle.std.proofs.Common.{◌∙◌}
use Rattle.rsp_variables.proofs.Given.{some-there}
use Rattle.rsp_variables.proofs.nodes.given_possible.Goals as goal

pub returns : goal.returns
returns c = c.some_binds.ensures ∙ some-there c.args.rows.now c.args.variable
