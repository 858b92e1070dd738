-- Definitions: numbers in decimal digits, and texts of fixed form.
use Rattle.std.specs.Prelude.{ℕ, ◌^◌, Bool, ◌&&◌, ◌==◌, nat_le, nat_lt, if◌then◌else◌, Option, None, Some, List, [], ◌∷◌, ◌++◌}
use Rattle.std.specs.Prelude.{length, take, drop, codes}
use Rattle.std.specs.Char.{is_ascii_digit}
use Rattle.std.specs.Cmp.Lexicographic.{pointwise}
use Rattle.std.specs.List.{list_all}
use Rattle.std.specs.Str.{byte}
use Rattle.std.specs.Str.Parse.{digits_value}
use Rattle.rsp_text.specs.Fronts.{leading_digits}

-- 1 to 20 digits whose value 64 bits hold
unfoldable pub read_u64 : List ℕ → Option ℕ
read_u64 text =
    if (nat_le 1 (length text) && nat_le (length text) 20)
    && (list_all is_ascii_digit text && nat_lt (digits_value 10 text) (2 ^ 64))
    then Some (digits_value 10 text)
    else None

-- a digit where the model has `0`, and else the model's own byte
abbrev pub is_written_like : ℕ → ℕ → Bool
is_written_like model c = if model == byte "0" then is_ascii_digit c else (model == c)

-- a text of fixed form, each byte written like the model's
unfoldable pub has_form : List ℕ → List ℕ → Bool
has_form model text = pointwise is_written_like model text

-- the number that n digits from a place on write
abbrev pub number : ℕ → ℕ → List ℕ → ℕ
number n place text = digits_value 10 (take n (drop place text))

-- `.` and the digits behind it, at the front; nothing where no `.` stands there
unfoldable pub fraction : List ℕ → List ℕ
fraction [] = []
fraction (c ∷ cs) = if c == byte "." then byte "." ∷ leading_digits cs else []

-- the thousandths of such a fraction: its first three digits, where those that are wanting are 0
abbrev pub thousandths : List ℕ → ℕ
thousandths fraction = digits_value 10 (take 3 (drop 1 fraction ++ codes "000"))
