use Rattle.std.proofs.Common.{arith, ◌^◌}
use Rattle.std.specs.Prelude.{pos}
use Rattle.rsp_number.specs.Decimals.{largest}
use Rattle.rsp_number.proofs.Widening.{widened-is, told-is, product-fits, product-is, product-size}
use Rattle.rsp_number.proofs.wide.Wide.scaled.Goals as goal

pub overflow_mul-result : goal.overflow_mul-result
overflow_mul-result c =
    product-fits _ _ c.args.integer (pos c.args.factor) largest (10 ^ 18) (widened-is _ c.args.integer c.value.ensures.value c.requires.size)
    (told-is _ c.requires.factor) c.requires.size c.requires.factor (omega arith)

pub returns-clause-value : goal.returns-clause-value
returns-clause-value c =
    product-is _ _ c.args.integer (pos c.args.factor) largest (10 ^ 18) (widened-is _ c.args.integer c.value.ensures.value c.requires.size)
    (told-is _ c.requires.factor) c.requires.size c.requires.factor (omega arith)

pub returns-clause-range : goal.returns-clause-range
returns-clause-range c = rw (returns-clause-value c) (product-size c.args.integer (pos c.args.factor) largest (10 ^ 18) c.requires.size c.requires.factor)

pub invariant_of-result : goal.invariant_of-result
invariant_of-result c = let range = returns-clause-range c in omega (arith, range)
