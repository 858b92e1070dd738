use Rattle.std.proofs.Common.{◌+◌, ◌<◌, length, arith, subst}
use Rattle.rsp_written.specs.Gives.{Gives}
use Rattle.rsp_written.proofs.Expressions.{deep_call}
use Rattle.rsp_read_expressions.specs.Levels.{inner_read}
use Rattle.rsp_read_expressions.proofs.expressions.call.Goals as goal

pub returns : goal.returns
unfolding inner_read
returns c =
    let short : length c.args.tokens.now < length c.args.tokens.now + 1 = omega arith in
    subst (Gives _ c.call.result) (deep_call c.args.tokens.now (length c.args.tokens.now + 1) short) c.call.ensures
