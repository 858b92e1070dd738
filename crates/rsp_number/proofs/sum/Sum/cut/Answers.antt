use Rattle.std.proofs.Common.{arith}
use Rattle.rsp_number.proofs.Summing.{none-past}
use Rattle.rsp_number.proofs.sum.Sum.cut.Goals as goal

pub returns-then-size : goal.returns-then-size
returns-then-size c =
    rw (← c.self.view_is) (none-past c.self.inside.whole c.self.inside.fraction c.self.invariant.0 (omega (arith, c.size.ensures.value)))
