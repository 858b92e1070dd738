use Rattle.std.specs.Prelude.{◌≡◌, ◌+◌, ◌-◌, ◌*◌, ◌^◌, ◌≤◌, pos, ◌-ℤ◌, ◌*ℤ◌, unsigned_abs}
use Rattle.std.proofs.Common.{arith}
use Rattle.std.proofs.lemmas.Int.{ints}
use Rattle.rsp_number.specs.Decimals.{largest, Scaled}
use Rattle.rsp_number.specs.Tallies.{Tally}
use Rattle.rsp_number.specs.TallyBounds.{IsWithin}
use Rattle.rsp_number.specs.Totals.{units, empty_tally, after_taking, after_giving}
use Rattle.rsp_number.specs.declared.number.Number.TheVariants.{Decimal}
use Rattle.rsp_tests.proofs.numbers.totals.Goals as goal

one-left : (s t u : Tally) (d e : Scaled) → s ≡ empty_tally → t ≡ after_taking s (Decimal d) 1 → u ≡ after_taking t (Decimal e) 1
    → unsigned_abs (units (Decimal e)) ≤ largest * 10 ^ 18 → IsWithin (u.sum -ℤ (units (Decimal d) *ℤ pos 1)) (u.integers - 0 + (u.decimals - 1))
one-left s t u d e none first second size = rw (second, first, none) (omega (arith, ints))

nothing-left : (s t u v : Tally) (d e : Scaled) → s ≡ empty_tally → t ≡ after_taking s (Decimal d) 1 → u ≡ after_taking t (Decimal e) 1 → v ≡ after_giving u (Decimal d) 1
    → v.sum -ℤ (units (Decimal e) *ℤ pos 1) ≡ pos 0
nothing-left s t u v d e none first second third = rw (third, second, first, none) (omega (arith, ints))

pub give-requires-clause-within : goal.give-requires-clause-within
give-requires-clause-within g c =
    one-left _ _ _ c.in_ok-parsed.field-0 c.in_ok-parsed-2.field-0 c.new-total.ensures c.take.ensures.total c.take-2.ensures.total c.take-2.ensures.range

pub give-requires-2-clause-within : goal.give-requires-2-clause-within
give-requires-2-clause-within g c =
    rw (nothing-left _ _ _ _ c.in_ok-parsed.field-0 c.in_ok-parsed-2.field-0 c.new-total.ensures c.take.ensures.total c.take-2.ensures.total c.give.ensures) (omega arith)

pub give-requires-2-clause-whole : goal.give-requires-2-clause-whole
give-requires-2-clause-whole g c = λ _.
    rw (nothing-left _ _ _ _ c.in_ok-parsed.field-0 c.in_ok-parsed-2.field-0 c.new-total.ensures c.take.ensures.total c.take-2.ensures.total c.give.ensures) (omega arith)
