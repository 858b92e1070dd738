use Rattle.std.proofs.Common.{◌∙◌}
use Rattle.rsp_expr.specs.Meanings.{formula_of}
use Rattle.rsp_shapes.specs.Groups.{stranger}
use Rattle.rsp_shapes.proofs.FirstIn.{first_in_is}
use Rattle.rsp_shapes.proofs.known.unknown.Goals as goal

pub returns : goal.returns
returns c = c.first_unknown.ensures ∙ first_in_is (stranger c.args.known.now) (formula_of c.args.expression.now)
