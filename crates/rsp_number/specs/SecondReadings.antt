-- Words of the way: what `fit`, `floor_of`, `units` and `read_decimal` give, in terms of values. Calls promise it beside these
-- words.
use Rattle.std.specs.Prelude.{ℕ, ◌/◌, ◌^◌, ◌<◌, ◌≤◌, ◌≡◌, Bool, false, ℤ, pos, ◌+ℤ◌, ◌*ℤ◌, ◌≤ℤ◌, ◌<ℤ◌, List, ◌++◌, length}
use Rattle.std.specs.Prelude.{Option, MatchOption}
use Rattle.rsp_number.specs.Decimals.{Scaled, IsDecimal, cut, largest, most_digits, with_sign}
use Rattle.rsp_number.specs.Numbers.{Fraction}
use Rattle.rsp_number.specs.Texts.{is_negative, without_sign, before_point, behind_point, number_after, has_decimal_form}
use Rattle.rsp_number.specs.declared.reading.Reading.{Reading}
use Rattle.rsp_number.specs.declared.reading.Reading.TheVariants.{Value, Beyond, NotForm}

-- the number is size / 10 ^ scale, under a sign
abbrev pub HasValue : Scaled → Bool → ℕ → ℕ → Type 0
HasValue number negative size scale = number.coefficient *ℤ pos (10 ^ scale) ≡ with_sign negative size *ℤ pos (10 ^ number.scale)

-- the scale is the greatest at which the coefficient of the cut number fits
pub record IsGreatestScale (numerator denominator scale : ℕ) : Type 0 where
  pub few : scale ≤ most_digits
  pub fits : cut numerator denominator scale ≤ largest
  pub greatest : (other : ℕ) → other ≤ most_digits → cut numerator denominator other ≤ largest → other ≤ scale

-- The number is the fraction cut at that scale; there is none where the whole part doesn't fit.
abbrev pub IsFitOf : Bool → ℕ → ℕ → Option Scaled → Type 0
IsFitOf negative numerator denominator result =
    MatchOption result (largest < numerator / denominator)
    (λ number. IsDecimal number
    × ((scale : ℕ)
    × (IsGreatestScale numerator denominator scale × HasValue number negative (cut numerator denominator scale) scale)))

-- n is not above the fraction, and the next is: a law of `floor_of`
pub record IsFloor (x : Fraction) (n : ℤ) : Type 0 where
  pub at_most : (n *ℤ pos x.denominator) ≤ℤ x.numerator
  pub next_above : x.numerator <ℤ ((n +ℤ pos 1) *ℤ pos x.denominator)

-- so many units are the fraction: a law of `units`
abbrev pub AreUnits : Fraction → ℤ → Type 0
AreUnits x count = count *ℤ pos x.denominator ≡ x.numerator *ℤ pos (10 ^ 18)

-- the number is what the text writes
abbrev pub IsWritten : List ℕ → Scaled → Type 0
IsWritten text number =
    HasValue number (is_negative text) (number_after 0 (before_point (without_sign text) ++ behind_point (without_sign text)))
    (length (behind_point (without_sign text)))

-- A decimal that the text writes, or Beyond where it writes none that there is.
abbrev pub IsReadExactly : List ℕ → Reading Scaled → Type 0
IsReadExactly text (Value number) = IsDecimal number × IsWritten text number
IsReadExactly text Beyond = (other : Scaled) → IsDecimal other → ¬ IsWritten text other
IsReadExactly text NotForm = has_decimal_form text ≡ false
