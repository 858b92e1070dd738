use Rattle.std.proofs.Common.{arith}
use Rattle.rsp_number.proofs.Powers.{power-within}
use Rattle.rsp_number.proofs.decimals.DecimalNumber.unit.Goals as goal

pub returns-clause-range : goal.returns-clause-range
returns-clause-range c = power-within _ _ (omega arith) c.pow.ensures
