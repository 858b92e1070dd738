-- Products at 128 bits, where nothing is cut off.
use Rattle.std.specs.Prelude.{◌≡◌, ℕ, ◌+◌, ◌*◌, ◌^◌, ◌<◌, ◌≤◌, ℤ, pos, ◌*ℤ◌, ◌+ℤ◌, unsigned_abs}
use Rattle.std.specs.Int.{cast_signed, cast_unsigned, w64, w128}
use Rattle.std.proofs.Common.{◌∙◌, ap, refl, arith, FitsSigned}
use Rattle.std.proofs.lemmas.Int.{ints, to_z-of_z, fits_signed_from_abs, fits_signed_mul, unsigned_abs-mul}
use Rattle.std.proofs.lemmas.Nat.{mul-le}
use Rattle.std.proofs.Math.Facts.{to_z_pos}
use Rattle.rsp_number.specs.Decimals.{largest}

-- how the code has a value of 128 bits, an integer's value at that width, and a size
abbrev pub kept : ℤ → ℤ
kept z = cast_signed w128 (cast_unsigned w128 z)

abbrev pub widened : ℤ → ℤ
widened z = kept (cast_signed w64 (cast_unsigned w64 z))

abbrev pub told : ℕ → ℤ
told n = cast_signed w128 n

pub kept-is : (x z : ℤ) → x ≡ z → unsigned_abs z < 2 ^ 127 → kept x ≡ z
kept-is x z is small = ap (λ y. kept y) is ∙ to_z-of_z w128 z (fits_signed_from_abs w128 z small)

pub widened-is : (x z : ℤ) → x ≡ z → unsigned_abs z ≤ largest → widened x ≡ z
widened-is x z is small =
    let near : cast_signed w64 (cast_unsigned w64 z) ≡ z = to_z-of_z w64 z (fits_signed_from_abs w64 z (omega arith)) in
    ap (λ y. widened y) is ∙ kept-is _ z near (omega arith)

pub told-is : (n : ℕ) → n ≤ 10 ^ 18 → told n ≡ pos n
told-is n small = to_z_pos w128 (omega arith)

-- a * b, where a and b are left and right

pub product-fits : (a b left right : ℤ) (m n : ℕ) → a ≡ left → b ≡ right → unsigned_abs left ≤ m → unsigned_abs right ≤ n
    → m * n < 2 ^ 127 → FitsSigned w128 (a *ℤ b)
product-fits a b left right m n a_is b_is low lower small = rw (a_is, b_is) (fits_signed_mul w128 left right m n low lower small)

pub product-is : (a b left right : ℤ) (m n : ℕ) → a ≡ left → b ≡ right → unsigned_abs left ≤ m → unsigned_abs right ≤ n
    → m * n < 2 ^ 127 → kept (a *ℤ b) ≡ left *ℤ right
product-is a b left right m n a_is b_is low lower small =
    rw (a_is, b_is) (to_z-of_z w128 (left *ℤ right) (fits_signed_mul w128 left right m n low lower small))

pub product-size : (left right : ℤ) (m n : ℕ) → unsigned_abs left ≤ m → unsigned_abs right ≤ n → unsigned_abs (left *ℤ right) ≤ m * n
product-size left right m n low lower = rw (unsigned_abs-mul left right) (mul-le _ _ _ _ low lower)

-- z times a factor and a carry, where the code has x for z

abbrev times : ℤ → ℕ → ℤ
times x factor = kept (kept x *ℤ told factor)

kept-small : (x z : ℤ) → x ≡ z → unsigned_abs z ≤ largest + 1 → kept x ≡ z
kept-small x z is low = kept-is x z is (omega arith)

pub times-fits : (x z : ℤ) (factor : ℕ) → x ≡ z → unsigned_abs z ≤ largest + 1 → factor ≤ 10 ^ 18 → FitsSigned w128 (kept x *ℤ told factor)
times-fits x z factor is low small =
    product-fits _ _ z (pos factor) (largest + 1) (10 ^ 18) (kept-small x z is low) (told-is factor small) low small (omega arith)

times-is : (x z : ℤ) (factor : ℕ) → x ≡ z → unsigned_abs z ≤ largest + 1 → factor ≤ 10 ^ 18 → times x factor ≡ z *ℤ pos factor
times-is x z factor is low small =
    product-is _ _ z (pos factor) (largest + 1) (10 ^ 18) (kept-small x z is low) (told-is factor small) low small (omega arith)

pub plus-size : (z : ℤ) (factor carry : ℕ) → unsigned_abs z ≤ largest + 1 → factor ≤ 10 ^ 18 → carry < 10 ^ 18
    → unsigned_abs ((z *ℤ pos factor) +ℤ pos carry) < 2 ^ 127
plus-size z factor carry low small less = by (z *ℤ pos factor) (product-size z (pos factor) (largest + 1) (10 ^ 18) low small)
  where
    by : (p : ℤ) → unsigned_abs p ≤ (largest + 1) * 10 ^ 18 → unsigned_abs (p +ℤ pos carry) < 2 ^ 127
    by p size = omega (arith, ints)

pub plus-fits : (x z : ℤ) (factor carry : ℕ) → x ≡ z → unsigned_abs z ≤ largest + 1 → factor ≤ 10 ^ 18 → carry < 10 ^ 18
    → FitsSigned w128 (times x factor +ℤ told carry)
plus-fits x z factor carry is low small less =
    rw (times-is x z factor is low small, told-is carry (omega arith)) (fits_signed_from_abs w128 _ (plus-size z factor carry low small less))

pub plus-is : (x z : ℤ) (factor carry : ℕ) → x ≡ z → unsigned_abs z ≤ largest + 1 → factor ≤ 10 ^ 18 → carry < 10 ^ 18
    → kept (times x factor +ℤ told carry) ≡ (z *ℤ pos factor) +ℤ pos carry
plus-is x z factor carry is low small less =
    rw (times-is x z factor is low small, told-is carry (omega arith)) (kept-is _ _ refl (plus-size z factor carry low small less))
