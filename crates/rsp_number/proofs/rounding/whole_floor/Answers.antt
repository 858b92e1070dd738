use Rattle.std.proofs.Common.{◌∙◌}
use Rattle.rsp_number.specs.Numbers.{value_of}
use Rattle.rsp_number.specs.declared.number.Number.TheVariants.{Decimal}
use Rattle.rsp_number.proofs.Flooring.{floor-law-from}
use Rattle.rsp_number.proofs.rounding.whole_floor.Goals as goal

pub returns-clause-law : goal.returns-clause-law
returns-clause-law c =
    floor-law-from (value_of (Decimal c.args.decimal.now)) c.from_integer-numerator.result c.floor.result c.into_integer.result c.denominator.result
    c.into_integer.ensures c.floor.ensures.value (c.from_integer-numerator.ensures ∙ c.numerator.ensures.value) c.denominator.ensures.value
    c.denominator.ensures.above_zero
