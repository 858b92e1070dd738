use Rattle.std.proofs.Common.{refl}
use Rattle.rsp_number.proofs.Tallying.{units-exact}
use Rattle.rsp_number.proofs.decimals.DecimalNumber.in_units.Goals as goal

pub returns-clause-exact : goal.returns-clause-exact
returns-clause-exact c =
    units-exact c.scaled.result c.scaled.result c.numerator.result c.args.self.now.coefficient c.unit.result c.args.self.now.scale
    refl c.scaled.ensures.value c.numerator.ensures.value c.unit.ensures.value c.unit.ensures.scale
