-- The tally of every list of at most 2^32 numbers is one that a total can hold.
use Rattle.std.specs.Prelude.{◌≡◌, ℕ, zero, suc, ◌+◌, ◌-◌, ◌*◌, ◌^◌, ◌≤◌, nat_le, Bool, true, false, cond, ◌&&◌, List, [], ◌∷◌, length, ℤ, pos, unsigned_abs, Some, None, IfSome, refl}
use Rattle.std.specs.List.{AllByRecursion, fold}
use Rattle.std.proofs.Common.{sym, ◌∙◌, ap, arith, true≢false}
use Rattle.std.proofs.lemmas.Int.{unsigned_abs-mul}
use Rattle.std.proofs.lemmas.Bool.{leb-true}
use Rattle.std.proofs.lemmas.Nat.{mul-le}
use Rattle.std.proofs.Math.Nat.{pow-le-pow_right}
use Rattle.rsp_number.specs.Decimals.{largest, most_digits, Scaled, integer_in_range, shortest_form}
use Rattle.rsp_number.specs.Tallies.{Tally}
use Rattle.rsp_number.specs.TallyBounds.{IsTally, IsSmall}
use Rattle.rsp_number.specs.Texts.{exact_decimal}
use Rattle.rsp_number.specs.Totals.{units, empty_tally, after_taking}
use Rattle.rsp_number.specs.declared.number.Number.{Number}
use Rattle.rsp_number.specs.declared.number.Number.TheVariants.{Integer, Decimal}
use Rattle.rsp_number.proofs.Tallying.{kinds-of, integers-in, decimals-in, integer-whole}

-- ---- tallies

pub tally-taken : (tally : Tally) (number : Number) (times : ℕ) → IsTally tally → IsSmall number
    → tally.integers + tally.decimals + times ≤ 2 ^ 32 → IsTally (after_taking tally number times)
tally-taken tally (Integer n) times is small few =
    let none : tally.decimals + 0 ≡ tally.decimals = omega arith in
    rw none (integers-in tally.sum (units (Integer n)) _ tally.integers tally.decimals times is small (integer-whole n) few refl)
tally-taken tally (Decimal d) times is small few =
    let none : tally.integers + 0 ≡ tally.integers = omega arith in
    rw none (decimals-in tally.sum (units (Decimal d)) _ tally.integers tally.decimals times is small few refl)

pub tally-of-more : (tally : Tally) (numbers : List Number) → IsTally tally → AllByRecursion IsSmall numbers
    → tally.integers + tally.decimals + length numbers ≤ 2 ^ 32
    → IsTally (fold (λ kept number. after_taking kept number 1) tally numbers)
tally-of-more tally [] is small few = is
tally-of-more tally (number ∷ numbers) is small few =
    let kinds = kinds-of number 1 in
    tally-of-more (after_taking tally number 1) numbers (tally-taken tally number 1 is small.0 (omega (arith, few))) small.1
    (omega (arith, few, kinds))

pub tally-empty : IsTally empty_tally
tally-empty = record { few = omega arith; within = omega arith; whole = λ _. refl }

pub tally-of-list : (numbers : List Number) → AllByRecursion IsSmall numbers → length numbers ≤ 2 ^ 32
    → IsTally (fold (λ kept number. after_taking kept number 1) empty_tally numbers)
tally-of-list numbers small few = tally-of-more empty_tally numbers tally-empty small (omega (arith, few))

-- ---- numbers that are read

scaled-up : (size power : ℕ) → size ≤ largest → power ≤ 10 ^ 18 → size * power ≤ largest * 10 ^ 18
scaled-up size power first second = mul-le _ _ _ _ first second

pub integer-small : (n : ℤ) → unsigned_abs n ≤ largest → IsSmall (Integer n)
integer-small n size =
    rw (unsigned_abs-mul n (pos (10 ^ 18))) (scaled-up (unsigned_abs n) (10 ^ 18) size (omega arith))

power-up : (s : ℕ) → 10 ^ (18 - s) ≤ 10 ^ 18
power-up s = let below : 18 - s ≤ 18 = omega arith in pow-le-pow_right {n = 10} (omega arith) {i = 18 - s} {j = 18} below

pub decimal-small : (d : Scaled) → unsigned_abs d.coefficient ≤ largest → IsSmall (Decimal d)
decimal-small d size =
    rw (unsigned_abs-mul d.coefficient (pos (10 ^ (18 - d.scale))))
    (scaled-up (unsigned_abs d.coefficient) (10 ^ (18 - d.scale)) size (power-up d.scale))

pub in_range-small : (n : ℤ) → IfSome (integer_in_range n) (λ m. IsSmall (Integer m))
in_range-small n = by (nat_le (unsigned_abs n) largest) refl
  where
    by : (b : Bool) → nat_le (unsigned_abs n) largest ≡ b → IfSome (cond b (Some n) None) (λ m. IsSmall (Integer m))
    by true is = integer-small n (leb-true (unsigned_abs n) largest is)
    by false is = tt

kept-small : (d : Scaled) (short fits : Bool) → nat_le (unsigned_abs d.coefficient) largest ≡ fits
    → IfSome (cond (short && fits) (Some d) None) (λ c. IsSmall (Decimal c))
kept-small d true true is = decimal-small d (leb-true (unsigned_abs d.coefficient) largest is)
kept-small d true false is = tt
kept-small d false fits is = tt

pub exact-small : (negative : Bool) (size scale : ℕ) → IfSome (exact_decimal negative size scale) (λ d. IsSmall (Decimal d))
exact-small negative size scale =
    let d = shortest_form negative size scale in
    kept-small d (nat_le d.scale most_digits) (nat_le (unsigned_abs d.coefficient) largest) refl
