use Rattle.std.proofs.Common.{◌≡◌, ◌∙◌, ap}
use Rattle.std.specs.Prelude.{◌+ℤ◌, ◌*ℤ◌, ◌^◌, pos}
use Rattle.rsp_number.specs.Totals.{units}
use Rattle.rsp_number.specs.TallyBounds.{IsWhole}
use Rattle.rsp_number.proofs.Tallying.{integers-in, decimals-in, integer-whole}
use Rattle.rsp_number.proofs.total.Total.take.Goals as goal

pub invariant_of-self : goal.invariant_of-self
invariant_of-self c =
    let value : c.in_units.result ≡ c.in-Integer.field-0 *ℤ pos (10 ^ 18) = c.in_units.ensures.value ∙ ap units c.in-Integer.is in
    let whole : IsWhole c.in_units.result = rw value (integer-whole c.in-Integer.field-0) in
    let few = rw (← c.self.view_is) at c.requires in
    integers-in c.self.inside.sum c.in_units.result _ c.self.inside.integers c.self.inside.decimals c.args.times c.self.invariant
    c.in_units.ensures.range whole few (c.plus-self-inside.ensures ∙ ap (λ part. c.self.inside.sum +ℤ part) c.times-part.ensures)

pub invariant_of-self-in-Decimal : goal.invariant_of-self-in-Decimal
invariant_of-self-in-Decimal c =
    let few = rw (← c.self.view_is) at c.requires in
    decimals-in c.self.inside.sum c.in_units.result _ c.self.inside.integers c.self.inside.decimals c.args.times c.self.invariant
    c.in_units.ensures.range few (c.plus-self-inside.ensures ∙ ap (λ part. c.self.inside.sum +ℤ part) c.times-part.ensures)
