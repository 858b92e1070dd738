use Rattle.std.proofs.Common.{◌∙◌}
use Rattle.rsp_number.specs.Numbers.{value_of}
use Rattle.rsp_number.proofs.Comparing.{order-by-units, denominator-above-zero}
use Rattle.rsp_number.proofs.order.compare.Goals as goal

pub returns-clause-value : goal.returns-clause-value
returns-clause-value c =
    let x = value_of c.args.left.now in
    let y = value_of c.args.right.now in
    c.compare.ensures
    ∙ order-by-units x.numerator y.numerator c.in_units.result c.in_units-2.result x.denominator y.denominator
    (denominator-above-zero c.args.left.now) (denominator-above-zero c.args.right.now) c.in_units.ensures.exact c.in_units-2.ensures.exact
