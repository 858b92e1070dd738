use Rattle.std.proofs.Common.{arith}
use Rattle.rsp_number.specs.Decimals.{largest}
use Rattle.rsp_number.proofs.Widening.{widened-is, product-fits, product-is, product-size}
use Rattle.rsp_number.proofs.wide.Wide.product.Goals as goal

pub overflow_mul-result : goal.overflow_mul-result
overflow_mul-result c =
    product-fits _ _ c.args.left c.args.right largest largest (widened-is _ c.args.left c.value.ensures.value c.requires.left)
    (widened-is _ c.args.right c.value-2.ensures.value c.requires.right) c.requires.left c.requires.right (omega arith)

pub returns-clause-value : goal.returns-clause-value
returns-clause-value c =
    product-is _ _ c.args.left c.args.right largest largest (widened-is _ c.args.left c.value.ensures.value c.requires.left)
    (widened-is _ c.args.right c.value-2.ensures.value c.requires.right) c.requires.left c.requires.right (omega arith)

pub returns-clause-range : goal.returns-clause-range
returns-clause-range c = rw (returns-clause-value c) (product-size c.args.left c.args.right largest largest c.requires.left c.requires.right)

pub invariant_of-result : goal.invariant_of-result
invariant_of-result c = let range = returns-clause-range c in omega (arith, range)
