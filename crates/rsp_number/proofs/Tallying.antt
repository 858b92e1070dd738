-- What taking a number in keeps of a tally.
use Rattle.std.specs.Prelude.{◌≡◌, ℕ, zero, suc, ◌+◌, ◌-◌, ◌*◌, ◌^◌, ◌≤◌, ℤ, pos, negsuc, neg_ℤ, ◌+ℤ◌, ◌*ℤ◌, unsigned_abs, refl}
use Rattle.std.proofs.Common.{sym, ◌∙◌, ap, arith}
use Rattle.std.proofs.lemmas.Int.{ints, unsigned_abs-mul}
use Rattle.std.proofs.lemmas.Nat.{mul-le, mul-mod_first, pow-add}
use Rattle.std.proofs.Math.Nat.{mul-mod_left, mul_assoc, zero-mul}
use Rattle.rsp_number.specs.Decimals.{largest}
use Rattle.rsp_number.specs.TallyBounds.{IsTally, IsWhole}
use Rattle.rsp_number.specs.Totals.{integers_of, decimals_of}
use Rattle.rsp_number.specs.declared.number.Number.{Number}
use Rattle.rsp_number.specs.declared.number.Number.TheVariants.{Integer, Decimal}

pub kinds-of : (number : Number) (times : ℕ) → integers_of number times + decimals_of number times ≡ times
kinds-of (Integer n) times = omega arith
kinds-of (Decimal d) times = omega arith

pub integer-whole : (n : ℤ) → IsWhole (n *ℤ pos (10 ^ 18))
integer-whole n = rw (unsigned_abs-mul n (pos (10 ^ 18))) (mul-mod_left (unsigned_abs n) (10 ^ 18))

times-whole : (u : ℤ) (t : ℕ) → IsWhole u → IsWhole (u *ℤ pos t)
times-whole u t whole =
    rw (unsigned_abs-mul u (pos t))
    (sym (mul-mod_first (unsigned_abs u) t (10 ^ 18)) ∙ rw (whole, zero-mul t) refl)

sum-whole : (a b : ℤ) → IsWhole a → IsWhole b → IsWhole (a +ℤ b)
sum-whole a b first second = omega (arith, ints)

within-times : (u : ℤ) (t : ℕ) → unsigned_abs u ≤ largest * 10 ^ 18 → unsigned_abs (u *ℤ pos t) ≤ largest * 10 ^ 18 * t
within-times u t size = rw (unsigned_abs-mul u (pos t)) (mul-le _ _ _ _ size (omega arith))

pub integers-in : (z u r : ℤ) (i d t : ℕ) → IsTally (record { sum = z; integers = i; decimals = d }) → unsigned_abs u ≤ largest * 10 ^ 18 → IsWhole u
    → i + d + t ≤ 2 ^ 32 → r ≡ z +ℤ (u *ℤ pos t) → IsTally (record { sum = r; integers = i + t; decimals = d })
integers-in z u r i d t tally size whole few is = record {
  few = omega arith;
  within = let more = within-times u t size in let old = tally.within in omega (arith, ints);
  whole = λ none. rw is (sum-whole z (u *ℤ pos t) (tally.whole none) (times-whole u t whole));
}

pub decimals-in : (z u r : ℤ) (i d t : ℕ) → IsTally (record { sum = z; integers = i; decimals = d }) → unsigned_abs u ≤ largest * 10 ^ 18
    → i + d + t ≤ 2 ^ 32 → r ≡ z +ℤ (u *ℤ pos t) → IsTally (record { sum = r; integers = i; decimals = d + t })
decimals-in z u r i d t tally size few is = record {
  few = omega arith;
  within = let more = within-times u t size in let old = tally.within in omega (arith, ints);
  whole = λ none.
      let no-more : t ≡ 0 = omega arith in
      let none-before : d ≡ 0 = omega arith in
      let empty_tally = within-times u t size in
      let old = tally.whole none-before in
      omega (arith, ints);
}

-- ---- units are exact

neg-times : (n k : ℕ) → neg_ℤ (pos n) *ℤ pos k ≡ neg_ℤ (pos (n * k))
neg-times zero k = rw (zero-mul k) refl
neg-times (suc n) k = refl

pub times-times : (z : ℤ) (j k : ℕ) → (z *ℤ pos j) *ℤ pos k ≡ z *ℤ pos (j * k)
times-times (pos n) j k = ap pos (mul_assoc n j k)
times-times (negsuc n) j k = neg-times (suc n * j) k ∙ ap (λ m. neg_ℤ (pos m)) (mul_assoc (suc n) j k)

pub decimal-units : (c : ℤ) (s : ℕ) → s ≤ 18 → (c *ℤ pos (10 ^ (18 - s))) *ℤ pos (10 ^ s) ≡ c *ℤ pos (10 ^ 18)
decimal-units c s few =
    let all : 18 - s + s ≡ 18 = omega arith in
    times-times c (10 ^ (18 - s)) (10 ^ s) ∙ ap (λ m. c *ℤ pos m) (sym (pow-add 10 (18 - s) s) ∙ ap (λ k. 10 ^ k) all)

pub integer-units : (n : ℤ) → (n *ℤ pos (10 ^ 18)) *ℤ pos 1 ≡ n *ℤ pos (10 ^ 18)
integer-units n = times-times n (10 ^ 18) 1

pub units-exact : (r w n c : ℤ) (u s : ℕ) → r ≡ w → w ≡ n *ℤ pos u → n ≡ c → u ≡ 10 ^ (18 - s) → s ≤ 18 → r *ℤ pos (10 ^ s) ≡ c *ℤ pos (10 ^ 18)
units-exact r w n c u s same product coefficient power few = rw (same, product, coefficient, power) (decimal-units c s few)
