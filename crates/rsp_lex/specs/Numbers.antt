-- Words of the way: numbers and spans as automata: the state behind each character, and the states in which one may end (SPARQL
-- 1.1, section 19.8: INTEGER, DECIMAL, DOUBLE; XML Schema Part 2, section 3.2.6.1).
use Rattle.std.specs.Prelude.{ℕ, Bool, true, false, ◌||◌, ◌==◌, if◌then◌else◌, Option, None, Some}
use Rattle.std.specs.Char.{is_ascii_digit}
use Rattle.std.specs.Str.{byte}
use Rattle.rsp_lex.specs.declared.numbers.IntegerState.{IntegerState}
use Rattle.rsp_lex.specs.declared.numbers.IntegerState.TheVariants as integer
use Rattle.rsp_lex.specs.declared.numbers.DecimalState.{DecimalState}
use Rattle.rsp_lex.specs.declared.numbers.DecimalState.TheVariants as decimal
use Rattle.rsp_lex.specs.declared.numbers.DoubleState.{DoubleState}
use Rattle.rsp_lex.specs.declared.numbers.DoubleState.TheVariants as double
use Rattle.rsp_lex.specs.declared.numbers.SpanState.{SpanState}
use Rattle.rsp_lex.specs.declared.numbers.SpanState.TheVariants as span
use Rattle.rsp_lex.specs.declared.numbers.Part.{Part}
use Rattle.rsp_lex.specs.declared.numbers.Part.TheVariants as part

-- ---- integers: digits

abbrev pub integer_step : ℕ → Option IntegerState
integer_step c = if is_ascii_digit c then Some integer.Inside else None

abbrev pub integer_ends : IntegerState → Bool
integer_ends integer.Start = false
integer_ends integer.Inside = true

-- ---- decimals: digits or none, `.`, digits

abbrev pub decimal_whole : ℕ → Option DecimalState
decimal_whole c = if c == byte "." then Some decimal.Point else (if is_ascii_digit c then Some decimal.Whole else None)

abbrev pub decimal_step : DecimalState → ℕ → Option DecimalState
decimal_step decimal.Start c = decimal_whole c
decimal_step decimal.Whole c = decimal_whole c
decimal_step decimal.Point c = if is_ascii_digit c then Some decimal.Fraction else None
decimal_step decimal.Fraction c = if is_ascii_digit c then Some decimal.Fraction else None

abbrev pub decimal_ends : DecimalState → Bool
decimal_ends decimal.Fraction = true
decimal_ends _ = false

-- ---- doubles: `1.5e0`, `1.e0`, `.5e0`, `1e0`, with `e` or `E` and an optional sign behind it

abbrev pub double_start : ℕ → Option DoubleState
double_start c = if c == byte "." then Some double.FirstPoint else (if is_ascii_digit c then Some double.Whole else None)

abbrev pub double_fraction : ℕ → Option DoubleState
double_fraction c =
    if c == byte "e" || c == byte "E" then Some double.Letter else (if is_ascii_digit c then Some double.Fraction else None)

abbrev pub double_whole : ℕ → Option DoubleState
double_whole c =
    if c == byte "." then Some double.Point
    else (if c == byte "e" || c == byte "E" then Some double.Letter else (if is_ascii_digit c then Some double.Whole else None))

abbrev pub double_exponent : ℕ → Option DoubleState
double_exponent c =
    if c == byte "+" || c == byte "-" then Some double.Sign else (if is_ascii_digit c then Some double.Exponent else None)

abbrev pub double_step : DoubleState → ℕ → Option DoubleState
double_step double.Start c = double_start c
double_step double.Whole c = double_whole c
double_step double.Point c = double_fraction c
double_step double.FirstPoint c = if is_ascii_digit c then Some double.Fraction else None
double_step double.Fraction c = double_fraction c
double_step double.Letter c = double_exponent c
double_step double.Sign c = if is_ascii_digit c then Some double.Exponent else None
double_step double.Exponent c = if is_ascii_digit c then Some double.Exponent else None

abbrev pub double_ends : DoubleState → Bool
double_ends double.Exponent = true
double_ends _ = false

-- ---- spans: `P`, days, `T`, hours, minutes, seconds; each part may be wanting, but not all, and not all behind `T`

abbrev pub span_part : Part → ℕ → Option SpanState
span_part part.None c =
    if c == byte "H" then Some (span.Behind part.Hours) else (if c == byte "M" then Some (span.Behind part.Minutes) else None)
span_part part.Hours c = if c == byte "M" then Some (span.Behind part.Minutes) else None
span_part _ c = None

abbrev pub span_digits : Part → ℕ → Option SpanState
span_digits before c =
    if is_ascii_digit c then Some (span.Digits before)
    else (if c == byte "S" then Some (span.Behind part.Seconds)
    else (if c == byte "." then Some span.Point else span_part before c))

abbrev pub span_behind : Part → ℕ → Option SpanState
span_behind part.Seconds c = None
span_behind before c = if is_ascii_digit c then Some (span.Digits before) else None

abbrev pub span_step : SpanState → ℕ → Option SpanState
span_step span.Start c = if c == byte "P" then Some span.Begun else None
span_step span.Begun c = if c == byte "T" then Some span.Time else (if is_ascii_digit c then Some span.DayDigits else None)
span_step span.DayDigits c = if c == byte "D" then Some span.Days else (if is_ascii_digit c then Some span.DayDigits else None)
span_step span.Days c = if c == byte "T" then Some span.Time else None
span_step span.Time c = if is_ascii_digit c then Some (span.Digits part.None) else None
span_step (span.Digits before) c = span_digits before c
span_step (span.Behind before) c = span_behind before c
span_step span.Point c = if is_ascii_digit c then Some span.Fraction else None
span_step span.Fraction c =
    if c == byte "S" then Some (span.Behind part.Seconds) else (if is_ascii_digit c then Some span.Fraction else None)

abbrev pub span_ends : SpanState → Bool
span_ends span.Days = true
span_ends (span.Behind before) = true
span_ends _ = false
