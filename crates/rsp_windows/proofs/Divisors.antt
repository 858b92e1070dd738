-- Whole multiples, and the coefficients of Euclid's algorithm. A proof multiplies each equation by what it needs.
use Rattle.std.specs.Prelude.{◌≡◌, ℕ, ◌+◌, ◌*◌, ◌/◌, ◌%◌, ◌<◌, ◌≤◌}
use Rattle.std.proofs.Common.{arith, ap}
use Rattle.std.proofs.Math.Nat.{mul-le-mul_left, mul-le-mul_right, le-mul_of_pos_right}
use Rattle.std.proofs.lemmas.Nat.{mod-mul-add}
use Rattle.rsp_windows.specs.Congruences.{IsBezout}

pub exact : (x d : ℕ) → x % d ≡ 0 → x ≡ x / d * d
exact x d whole = grind arith

pub multiple_is_whole : (x k d : ℕ) → 0 < d → x ≡ k * d → x % d ≡ 0
multiple_is_whole x k d low is =
    let same : x ≡ k * d + 0 = omega (arith, is) in rw same (mod-mul-add k d 0 low)

-- one step: what divides both rests divides both numbers
step_divides : (a b q r g : ℕ) → 0 < g → a ≡ q * b + r → b % g ≡ 0 → r % g ≡ 0 → a % g ≡ 0
step_divides a b q r g low is b_whole r_whole =
    multiple_is_whole a (q * (b / g) + r / g) g low
    (omega (arith, is, ap (λ x. q * x) (exact b g b_whole), exact r g r_whole))

pub two_steps : (a b q r p s g times less : ℕ) → a ≡ q * b + r → b ≡ p * r + s → IsBezout r s g times less
    → IsBezout a b g (times + less * p) (less + q * (times + less * p))
two_steps a b q r p s g times less a_is b_is inner =
    let b_whole : b % g ≡ 0 = step_divides b r p s g inner.positive b_is inner.left inner.right in
    let high : times + less * p ≤ b = omega (arith, b_is, inner.times_high, mul-le-mul_right p inner.less_high) in
    record {
      positive = inner.positive;
      left = step_divides a b q r g inner.positive a_is b_whole inner.left;
      right = b_whole;
      meets = omega (arith, ap (λ x. (times + less * p) * x) a_is, ap (λ x. less * x) b_is, inner.meets);
      times_high = high;
      less_high = omega (arith, a_is, inner.less_high, mul-le-mul_left q high);
    }

pub second_divides : (a b r : ℕ) → 0 < b → 0 < r → r ≡ a % b → b % r ≡ 0 → IsBezout a b r 1 (a / b)
second_divides a b r b_low r_low rest whole =
    let is : a ≡ a / b * b + r = grind arith in
    record {
      positive = r_low;
      left = step_divides a b (a / b) r r r_low is whole (multiple_is_whole r 1 r r_low (omega arith));
      right = whole;
      meets = omega (arith, is);
      times_high = b_low;
      less_high = omega (arith, is, le-mul_of_pos_right (a / b) b_low);
    }
