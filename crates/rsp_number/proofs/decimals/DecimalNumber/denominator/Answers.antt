use Rattle.rsp_number.proofs.Powers.{power-above-zero, power-within}
use Rattle.rsp_number.proofs.decimals.DecimalNumber.denominator.Goals as goal

pub returns-clause-above_zero : goal.returns-clause-above_zero
returns-clause-above_zero c = power-above-zero _ _ c.pow.ensures

pub returns-clause-range : goal.returns-clause-range
returns-clause-range c = power-within _ _ c.self.invariant.scale_fits c.pow.ensures
