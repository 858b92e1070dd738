-- Definitions: decimals of at most 18 digits after the point, and the decimal that a fraction of whole numbers is cut to
-- (XML Schema 1.1 part 2, section 3.3.3: a processor may limit the digits of a decimal).
use Rattle.std.specs.Prelude.{ℕ, zero, suc, ◌*◌, ◌/◌, ◌%◌, ◌^◌, ◌-◌, ◌≤◌, Bool, cond, nat_le, ◌==◌, ℤ, pos, neg_ℤ, unsigned_abs}
use Rattle.std.specs.Prelude.{int_lt, Option, Some, None, option_map, ◌≡◌, ◌≢◌, ◌⊎◌}

-- the greatest size of an integer, and of a decimal's coefficient
abbrev pub largest : ℕ
largest = 2 ^ 63 - 1

-- the integer n, where its size is within the range
abbrev pub integer_in_range : ℤ → Option ℤ
integer_in_range n = cond (nat_le (unsigned_abs n) largest) (Some n) None

-- the most digits after the point
abbrev pub most_digits : ℕ
most_digits = 18

-- the number coefficient / 10 ^ scale
pub record Scaled : Type 0 where
  pub coefficient : ℤ
  pub scale : ℕ

-- The decimals: each has one coefficient and one scale, since no zero ends the digits after the point.
pub record IsDecimal (number : Scaled) : Type 0 where
  pub coefficient_fits : unsigned_abs number.coefficient ≤ largest
  pub scale_fits : number.scale ≤ most_digits
  pub no_trailing_zero : (number.scale ≡ 0) ⊎ (unsigned_abs number.coefficient % 10 ≢ 0)

-- a size with a sign
abbrev pub with_sign : Bool → ℕ → ℤ
with_sign negative size = cond negative (neg_ℤ (pos size)) (pos size)

abbrev pub is_below_zero : ℤ → Bool
is_below_zero n = int_lt n (pos 0)

-- size / 10 ^ scale as a decimal, under a sign: the zeros that end the digits after the point are dropped
abbrev pub shortest_form : Bool → ℕ → ℕ → Scaled
shortest_form negative size zero = record { coefficient = with_sign negative size; scale = 0 }
shortest_form negative size (suc scale) =
    cond (size % 10 == 0) (shortest_form negative (size / 10) scale)
    (record { coefficient = with_sign negative size; scale = suc scale })

-- the greatest number up to the bound at which the test holds
unfoldable pub greatest : (ℕ → Bool) → ℕ → Option ℕ
greatest test zero = cond (test 0) (Some 0) None
greatest test (suc bound) = cond (test (suc bound)) (Some (suc bound)) (greatest test bound)

-- numerator / denominator cut to `scale` digits after the point, counted in units of the last of them
abbrev pub cut : ℕ → ℕ → ℕ → ℕ
cut numerator denominator scale = numerator * 10 ^ scale / denominator

-- The greatest scale from 0 to 18 at which the coefficient of the cut number fits; None where it doesn't fit at 0.
abbrev pub scale_of : ℕ → ℕ → Option ℕ
scale_of numerator denominator = greatest (λ scale. nat_le (cut numerator denominator scale) largest) most_digits

-- The decimal that a size numerator / denominator is cut to, under a sign.
abbrev pub fit_size : Bool → ℕ → ℕ → Option Scaled
fit_size negative numerator denominator =
    option_map (λ scale. shortest_form negative (cut numerator denominator scale) scale) (scale_of numerator denominator)

-- The decimal that numerator / denominator is cut to, toward zero.
abbrev pub fit : ℤ → ℕ → Option Scaled
fit numerator denominator = fit_size (is_below_zero numerator) (unsigned_abs numerator) denominator
