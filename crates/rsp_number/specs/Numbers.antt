-- Definitions: numbers as fractions of whole numbers, and what each operation on them gives (XPath functions 3.1, sections
-- 4.2 to 4.4: op:numeric-add to op:numeric-divide, op:numeric-less-than, fn:abs to fn:round).
use Rattle.std.specs.Prelude.{ℕ, ◌*◌, ◌^◌, Bool, cond, ◌==◌, ℤ, pos, ◌+ℤ◌, ◌-ℤ◌, ◌*ℤ◌, neg_ℤ, unsigned_abs, Option, None}
use Rattle.std.specs.Prelude.{option_map}
use Rattle.std.specs.Int.{int_div_euclid}
use Rattle.std.specs.Ordering.{int_cmp}
use Rattle.std.specs.declared.cmp.Ordering.{Ordering}
use Rattle.rsp_number.specs.Decimals.{integer_in_range, fit, is_below_zero}
use Rattle.rsp_number.specs.declared.number.Number.{Number}
use Rattle.rsp_number.specs.declared.number.Number.TheVariants.{Integer, Decimal}

-- ---- fractions

-- numerator / denominator; no denominator below is 0
pub record Fraction : Type 0 where
  pub numerator : ℤ
  pub denominator : ℕ

-- the exact value of a number
abbrev pub value_of : Number → Fraction
value_of (Integer n) = record { numerator = n; denominator = 1 }
value_of (Decimal d) = record { numerator = d.coefficient; denominator = 10 ^ d.scale }

abbrev pub plus : Fraction → Fraction → Fraction
plus x y = record {
  numerator = (x.numerator *ℤ pos y.denominator) +ℤ (y.numerator *ℤ pos x.denominator);
  denominator = x.denominator * y.denominator;
}

abbrev pub opposite : Fraction → Fraction
opposite x = record { numerator = neg_ℤ x.numerator; denominator = x.denominator }

abbrev pub times : Fraction → Fraction → Fraction
times x y = record { numerator = x.numerator *ℤ y.numerator; denominator = x.denominator * y.denominator }

-- of a fraction that isn't 0: the denominator takes its place, and the sign goes above
abbrev pub inverse : Fraction → Fraction
inverse x = record {
  numerator = cond (is_below_zero x.numerator) (neg_ℤ (pos x.denominator)) (pos x.denominator);
  denominator = unsigned_abs x.numerator;
}

abbrev pub is_zero : Fraction → Bool
is_zero x = unsigned_abs x.numerator == 0

-- the greatest whole number that is not above the fraction
abbrev pub floor_of : Fraction → ℤ
floor_of x = int_div_euclid x.numerator (pos x.denominator)

-- the least whole number that is not below it
abbrev pub ceil_of : Fraction → ℤ
ceil_of x = neg_ℤ (floor_of (opposite x))

-- the nearest whole number, and of two the greater: what floor gives of x + 1/2
abbrev pub round_of : Fraction → ℤ
round_of x = floor_of (plus x (record { numerator = pos 1; denominator = 2 }))

-- ---- results

abbrev pub integer_result : ℤ → Option Number
integer_result n = option_map Integer (integer_in_range n)

-- the decimal that a fraction is cut to
abbrev pub decimal_result : Fraction → Option Number
decimal_result x = option_map Decimal (fit x.numerator x.denominator)

abbrev pub sum : Number → Number → Option Number
sum (Integer m) (Integer n) = integer_result (m +ℤ n)
sum left right = decimal_result (plus (value_of left) (value_of right))

abbrev pub difference : Number → Number → Option Number
difference (Integer m) (Integer n) = integer_result (m -ℤ n)
difference left right = decimal_result (plus (value_of left) (opposite (value_of right)))

abbrev pub product : Number → Number → Option Number
product (Integer m) (Integer n) = integer_result (m *ℤ n)
product left right = decimal_result (times (value_of left) (value_of right))

-- a decimal, also where both numbers are integers
abbrev pub quotient : Number → Number → Option Number
quotient left right = cond (is_zero (value_of right)) None (decimal_result (times (value_of left) (inverse (value_of right))))

-- ---- results of the kind of their argument

abbrev pub negation : Number → Number
negation (Integer n) = Integer (neg_ℤ n)
negation (Decimal d) = Decimal (record { coefficient = neg_ℤ d.coefficient; scale = d.scale })

abbrev pub absolute_value : Number → Number
absolute_value (Integer n) = Integer (pos (unsigned_abs n))
absolute_value (Decimal d) = Decimal (record { coefficient = pos (unsigned_abs d.coefficient); scale = d.scale })

-- a whole number of the decimal's kind; integers are whole
abbrev pub rounding : (Fraction → ℤ) → Number → Number
rounding to_whole (Integer n) = Integer n
rounding to_whole (Decimal d) = Decimal (record { coefficient = to_whole (value_of (Decimal d)); scale = 0 })

-- ---- order

-- by cross products, since denominators are above 0
abbrev pub comparison : Number → Number → Ordering
comparison left right =
    let x = value_of left in
    let y = value_of right in
    int_cmp (x.numerator *ℤ pos y.denominator) (y.numerator *ℤ pos x.denominator)
