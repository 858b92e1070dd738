-- Definitions: the written forms of integers and decimals, as bytes, and what they read as (XML Schema 1.1 part 2, sections
-- 3.3.3 and 3.4.13).
use Rattle.std.specs.Prelude.{ℕ, ◌+◌, ◌-◌, ◌*◌, Bool, false, cond, not, ◌&&◌, ◌||◌, nat_le, ◌==◌, ℤ, unsigned_abs, List, []}
use Rattle.std.specs.Prelude.{◌∷◌, ◌++◌, length, Option, Some, None}
use Rattle.std.specs.Char.{is_ascii_digit}
use Rattle.std.specs.List.{list_all}
use Rattle.std.specs.Str.{byte}
use Rattle.rsp_number.specs.Decimals.{largest, most_digits, Scaled, integer_in_range, with_sign, shortest_form}
use Rattle.rsp_number.specs.declared.reading.Reading.{Reading}
use Rattle.rsp_number.specs.declared.reading.Reading.TheVariants.{Value, Beyond, NotForm}

abbrev pub is_sign : ℕ → Bool
is_sign c = (c == byte "+") || (c == byte "-")

-- the text begins with '-'
abbrev pub is_negative : List ℕ → Bool
is_negative [] = false
is_negative (c ∷ rest) = c == byte "-"

-- the text behind its sign, if it has one
abbrev pub without_sign : List ℕ → List ℕ
without_sign [] = []
without_sign (c ∷ rest) = cond (is_sign c) rest (c ∷ rest)

abbrev pub are_digits : List ℕ → Bool
are_digits text = list_all is_ascii_digit text

-- what stands before the first '.', or all
abbrev pub before_point : List ℕ → List ℕ
before_point [] = []
before_point (c ∷ rest) = cond (c == byte ".") [] (c ∷ before_point rest)

-- what stands behind the first '.', or nothing
abbrev pub behind_point : List ℕ → List ℕ
behind_point [] = []
behind_point (c ∷ rest) = cond (c == byte ".") rest (behind_point rest)

-- the number that digits write when they follow those of n
abbrev pub number_after : ℕ → List ℕ → ℕ
number_after n [] = n
number_after n (digit ∷ rest) = number_after (n * 10 + (digit - byte "0")) rest

-- an optional sign and digits, at least one
abbrev pub has_integer_form : List ℕ → Bool
has_integer_form text = are_digits (without_sign text) && not (length (without_sign text) == 0)

-- an optional sign, and digits with at most one '.' before, among or behind them, at least one digit
abbrev pub has_decimal_form : List ℕ → Bool
has_decimal_form text =
    are_digits (before_point (without_sign text))
    && (are_digits (behind_point (without_sign text))
    && not (length (before_point (without_sign text)) + length (behind_point (without_sign text)) == 0))

-- the decimal that is exactly size / 10 ^ scale, under a sign, where one is: its shortest form is within the ranges
abbrev pub exact_decimal : Bool → ℕ → ℕ → Option Scaled
exact_decimal negative size scale =
    let number = shortest_form negative size scale in
    cond (nat_le number.scale most_digits && nat_le (unsigned_abs number.coefficient) largest) (Some number) None

-- a number of the form is Beyond where there is none
abbrev pub value_or_beyond : {T : Type 0} → Option T → Reading T
value_or_beyond None = Beyond
value_or_beyond (Some value) = Value value

abbrev pub read_integer : List ℕ → Reading ℤ
read_integer text =
    cond (has_integer_form text)
    (value_or_beyond (integer_in_range (with_sign (is_negative text) (number_after 0 (without_sign text)))))
    NotForm

-- the digits of both sides of the point write the coefficient, and those behind it are counted by the scale
abbrev pub read_decimal : List ℕ → Reading Scaled
read_decimal text =
    cond (has_decimal_form text)
    (value_or_beyond
    (exact_decimal (is_negative text) (number_after 0 (before_point (without_sign text) ++ behind_point (without_sign text)))
    (length (behind_point (without_sign text)))))
    NotForm
