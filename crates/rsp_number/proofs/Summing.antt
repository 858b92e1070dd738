-- Whole part and fraction of a sum in units of 10^-18.
use Rattle.std.specs.Prelude.{◌≡◌, ℕ, zero, suc, ◌+◌, ◌-◌, ◌*◌, ◌/◌, ◌%◌, ◌^◌, ◌<◌, ◌≤◌, None, ℤ, pos, negsuc, ◌+ℤ◌, ◌*ℤ◌, neg_ℤ, unsigned_abs, refl}
use Rattle.std.proofs.Common.{sym, ◌∙◌, ap, arith}
use Rattle.std.proofs.lemmas.Int.{ints, unsigned_abs-mul}
use Rattle.std.proofs.lemmas.Nat.{mul-le}
use Rattle.std.proofs.Math.Nat.{add-mul, mul_right_comm, zero-mul}
use borrow.Author.Differences.{up, down}
use Rattle.rsp_number.specs.Decimals.{largest, fit}
use Rattle.rsp_number.proofs.Cutting.{fit-none}

up-neg : (n : ℕ) → up (neg_ℤ (pos n)) ≡ 0
up-neg zero = refl
up-neg (suc n) = refl

down-neg : (n : ℕ) → down (neg_ℤ (pos n)) ≡ n
down-neg zero = refl
down-neg (suc n) = refl

pub up-times : (z : ℤ) (k : ℕ) → up (z *ℤ pos k) ≡ up z * k
up-times (pos m) k = refl
up-times (negsuc m) k = up-neg (suc m * k) ∙ sym (zero-mul k)

pub down-times : (z : ℤ) (k : ℕ) → down (z *ℤ pos k) ≡ down z * k
down-times (pos m) k = sym (zero-mul k)
down-times (negsuc m) k = down-neg (suc m * k)

parts-times : (a b c f e t : ℕ) → a + b * 10 ^ 18 ≡ c * 10 ^ 18 + f + e → a * t + b * t * 10 ^ 18 ≡ c * t * 10 ^ 18 + f * t + e * t
parts-times a b c f e t is = omega (arith, ap (λ x. x * t) is, add-mul a (b * 10 ^ 18) t, add-mul (c * 10 ^ 18 + f) e t, add-mul (c * 10 ^ 18) f t, mul_right_comm b (10 ^ 18) t, mul_right_comm c (10 ^ 18) t)

-- a product with units and a fraction, part by part
pub sum-times : (w : ℤ) (f t : ℕ)
    → (((w *ℤ pos t) +ℤ pos (f * t / 10 ^ 18)) *ℤ pos (10 ^ 18)) +ℤ pos (f * t % 10 ^ 18) ≡ ((w *ℤ pos (10 ^ 18)) +ℤ pos f) *ℤ pos t
sum-times w f t =
    let z : ℤ = (w *ℤ pos (10 ^ 18)) +ℤ pos f in
    let parts : up z + down w * 10 ^ 18 ≡ up w * 10 ^ 18 + f + down z = omega (arith, ints) in
    let scaled = parts-times (up z) (down w) (up w) f (down z) t parts in
    omega (arith, ints, scaled, up-times z t, down-times z t, up-times w t, down-times w t)

pub times-within : (z : ℤ) (t : ℕ) → unsigned_abs z ≤ largest * 10 ^ 18 → t ≤ 2 ^ 32 → unsigned_abs (z *ℤ pos t) < 2 ^ 160
times-within z t size count =
    let product : unsigned_abs z * t ≤ largest * 10 ^ 18 * 2 ^ 32 = mul-le _ _ _ _ size count in
    omega (arith, unsigned_abs-mul z (pos t))

-- a whole part that is past the range is past it
pub none-past : (w : ℤ) (f : ℕ) → f < 10 ^ 18 → largest + 1 < unsigned_abs w → None ≡ fit ((w *ℤ pos (10 ^ 18)) +ℤ pos f) (10 ^ 18)
none-past w f small past =
    fit-none _ _ _ (omega arith) (omega (arith, ints))

-- the sum of two, with and without a unit that the fractions carry over

pub sum-plus : (v w r : ℤ) (f g : ℕ) → r ≡ v +ℤ w
    → (r *ℤ pos (10 ^ 18)) +ℤ pos (f + g) ≡ ((v *ℤ pos (10 ^ 18)) +ℤ pos f) +ℤ ((w *ℤ pos (10 ^ 18)) +ℤ pos g)
sum-plus v w r f g is = omega (arith, ints)

pub sum-carry : (v w r s : ℤ) (f g : ℕ) → r ≡ v +ℤ w → s ≡ r +ℤ pos 1 → 10 ^ 18 ≤ f + g
    → (s *ℤ pos (10 ^ 18)) +ℤ pos (f + g - 10 ^ 18) ≡ ((v *ℤ pos (10 ^ 18)) +ℤ pos f) +ℤ ((w *ℤ pos (10 ^ 18)) +ℤ pos g)
sum-carry v w r s f g is next large = omega (arith, ints)

pub sum-times-is : (w r : ℤ) (f t : ℕ) → r ≡ (w *ℤ pos t) +ℤ pos (f * t / 10 ^ 18)
    → (r *ℤ pos (10 ^ 18)) +ℤ pos (f * t % 10 ^ 18) ≡ ((w *ℤ pos (10 ^ 18)) +ℤ pos f) *ℤ pos t
sum-times-is w r f t is = rw is (sum-times w f t)
