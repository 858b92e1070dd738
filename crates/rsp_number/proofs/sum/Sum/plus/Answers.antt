use Rattle.rsp_number.proofs.Summing.{sum-plus, sum-carry}
use Rattle.std.proofs.Common.{◌∙◌, ap}
use Rattle.std.specs.Prelude.{◌+ℤ◌}
use Rattle.rsp_number.proofs.sum.Sum.plus.Goals as goal

pub returns-then-fraction-lt-UNITS : goal.returns-then-fraction-lt-UNITS
returns-then-fraction-lt-UNITS c = rw (← c.self.view_is, ← c.other.view_is) (sum-plus c.self.inside.whole c.other.inside.whole _ c.self.inside.fraction c.other.inside.fraction c.plus-whole.ensures)

pub returns-else-fraction-lt-UNITS : goal.returns-else-fraction-lt-UNITS
returns-else-fraction-lt-UNITS c =
    rw (← c.self.view_is, ← c.other.view_is)
    (sum-carry c.self.inside.whole c.other.inside.whole c.plus-whole.result _ c.self.inside.fraction c.other.inside.fraction c.plus-whole.ensures (c.plus.ensures ∙ ap (λ one. c.plus-whole.result +ℤ one) c.from_size.ensures)
    c.if-fraction-lt-UNITS.false)
