-- Integers, decimals, doubles and spans: their automata accept what is of their form.
use Rattle.std.proofs.Common.{◌≡◌, ℕ, Bool, true, false, List, [], ◌∷◌, refl, ◌∙◌, ap}
use Rattle.std.specs.Prelude.{◌==◌, ◌&&◌, ◌||◌}
use Rattle.std.specs.Char.{is_ascii_digit}
use Rattle.rsp_spec.proofs.Truths.{equal_from}
use Rattle.rsp_lex.specs.declared.token.TokenKind.TheVariants as kind
use Rattle.rsp_lex.specs.declared.machine.State.TheVariants as state
use Rattle.rsp_lex.specs.declared.numbers.IntegerState.TheVariants as integer
use Rattle.rsp_lex.specs.declared.numbers.DecimalState.TheVariants as decimal
use Rattle.rsp_lex.specs.declared.numbers.DoubleState.{DoubleState}
use Rattle.rsp_lex.specs.declared.numbers.DoubleState.TheVariants as double
use Rattle.rsp_lex.specs.declared.numbers.SpanState.{SpanState}
use Rattle.rsp_lex.specs.declared.numbers.SpanState.TheVariants as span
use Rattle.rsp_lex.specs.declared.numbers.Part.TheVariants as part
use Rattle.rsp_lex.specs.Patterns.{one, ◌before◌, text, maybe, many, some, ended}
use Rattle.rsp_lex.specs.Forms.{form, digits, exponent, seconds, minutes, hours, time}
use Rattle.rsp_lex.specs.Kinds.{accepted}
use Rattle.rsp_lex.proofs.PatternLaws.{takes_one, many_is}
use Rattle.rsp_lex.proofs.Automata.{from, chosen, chosen_or, or_none}

abbrev Test : Type 0
Test = List ℕ → Bool

-- ---- digits: what is so behind them is so behind any number of them

in_digits : (k f : Test) → ((cs : List ℕ) → f cs ≡ (k cs || one is_ascii_digit f cs)) → (cs : List ℕ) → f cs ≡ many (one is_ascii_digit) k cs
in_digits = many_is (one is_ascii_digit) (takes_one is_ascii_digit)

-- ---- integers

integer_inside : (cs : List ℕ) → from (state.Integer integer.Inside) cs ≡ many (one is_ascii_digit) ended cs
integer_inside = in_digits ended (from (state.Integer integer.Inside)) goes
  where
    goes : (cs : List ℕ) → from (state.Integer integer.Inside) cs ≡ (ended cs || one is_ascii_digit (from (state.Integer integer.Inside)) cs)
    goes [] = refl
    goes (c ∷ cs) = chosen (λ s. state.Integer s) integer.Inside cs (is_ascii_digit c)

pub integer_form : (cs : List ℕ) → accepted kind.Integer cs ≡ form kind.Integer ended cs
integer_form [] = refl
integer_form (c ∷ cs) =
    chosen (λ s. state.Integer s) integer.Inside cs (is_ascii_digit c) ∙ ap (λ b. is_ascii_digit c && b) (integer_inside cs)

-- ---- decimals

decimal_fraction : (cs : List ℕ) → from (state.Decimal decimal.Fraction) cs ≡ many (one is_ascii_digit) ended cs
decimal_fraction = in_digits ended (from (state.Decimal decimal.Fraction)) goes
  where
    goes : (cs : List ℕ) → from (state.Decimal decimal.Fraction) cs ≡ (ended cs || one is_ascii_digit (from (state.Decimal decimal.Fraction)) cs)
    goes [] = refl
    goes (c ∷ cs) = chosen (λ s. state.Decimal s) decimal.Fraction cs (is_ascii_digit c)

decimal_point : (cs : List ℕ) → from (state.Decimal decimal.Point) cs ≡ digits ended cs
decimal_point [] = refl
decimal_point (c ∷ cs) =
    chosen (λ s. state.Decimal s) decimal.Fraction cs (is_ascii_digit c) ∙ ap (λ b. is_ascii_digit c && b) (decimal_fraction cs)

abbrev point : Test
point = text (46 ∷ []) (digits ended)

decimal_whole : (cs : List ℕ) → from (state.Decimal decimal.Whole) cs ≡ many (one is_ascii_digit) point cs
decimal_whole = in_digits point (from (state.Decimal decimal.Whole)) goes
  where
    at_point : (cs : List ℕ) (c : ℕ) → c ≡ 46
        → from (state.Decimal decimal.Whole) (c ∷ cs) ≡ (point (c ∷ cs) || one is_ascii_digit (from (state.Decimal decimal.Whole)) (c ∷ cs))
    at_point cs c is = rw is (decimal_point cs ∙ or_none (digits ended cs))

    by : (cs : List ℕ) (c : ℕ) (b : Bool) → (c == 46) ≡ b
        → from (state.Decimal decimal.Whole) (c ∷ cs) ≡ (point (c ∷ cs) || one is_ascii_digit (from (state.Decimal decimal.Whole)) (c ∷ cs))
    by cs c true h = at_point cs c (equal_from c 46 h)
    by cs c false h = rw h (chosen (λ s. state.Decimal s) decimal.Whole cs (is_ascii_digit c))

    goes : (cs : List ℕ) → from (state.Decimal decimal.Whole) cs ≡ (point cs || one is_ascii_digit (from (state.Decimal decimal.Whole)) cs)
    goes [] = refl
    goes (c ∷ cs) = by cs c (c == 46) refl

pub decimal_form : (cs : List ℕ) → accepted kind.Decimal cs ≡ form kind.Decimal ended cs
decimal_form [] = refl
decimal_form (c ∷ cs) = decimal_whole (c ∷ cs)

-- ---- doubles

abbrev at : DoubleState → Test
at s cs = from (state.Double s) cs

abbrev is_letter : ℕ → Bool
is_letter c = c == 101 || c == 69

abbrev is_sign : ℕ → Bool
is_sign c = c == 43 || c == 45

double_exponent : (cs : List ℕ) → at double.Exponent cs ≡ many (one is_ascii_digit) ended cs
double_exponent = in_digits ended (at double.Exponent) goes
  where
    goes : (cs : List ℕ) → at double.Exponent cs ≡ (ended cs || one is_ascii_digit (at double.Exponent) cs)
    goes [] = refl
    goes (c ∷ cs) = chosen (λ s. state.Double s) double.Exponent cs (is_ascii_digit c)

double_sign : (cs : List ℕ) → at double.Sign cs ≡ digits ended cs
double_sign [] = refl
double_sign (c ∷ cs) =
    chosen (λ s. state.Double s) double.Exponent cs (is_ascii_digit c) ∙ ap (λ b. is_ascii_digit c && b) (double_exponent cs)

abbrev power : Test
power = (maybe (one is_sign) before digits) ended

double_letter : (cs : List ℕ) → at double.Letter cs ≡ power cs
double_letter [] = refl
double_letter (c ∷ cs) = by (c == 43) refl (c == 45) refl
  where
    at_plus : (c : ℕ) → c ≡ 43 → at double.Letter (c ∷ cs) ≡ power (c ∷ cs)
    at_plus c is = rw is (double_sign cs)

    at_minus : (c : ℕ) → c ≡ 45 → at double.Letter (c ∷ cs) ≡ power (c ∷ cs)
    at_minus c is = rw is (double_sign cs)

    by : (a : Bool) → (c == 43) ≡ a → (b : Bool) → (c == 45) ≡ b → at double.Letter (c ∷ cs) ≡ power (c ∷ cs)
    by true h b g = at_plus c (equal_from c 43 h)
    by false h true g = at_minus c (equal_from c 45 g)
    by false h false g =
        rw (h, g) (double_sign (c ∷ cs) ∙ or_none (digits ended (c ∷ cs)))

abbrev letter : Test
letter = exponent ended

-- digits behind a point, and those of the whole number once a point stands behind it
double_fraction : (c : ℕ) (cs : List ℕ) → at double.Fraction (c ∷ cs) ≡ (letter (c ∷ cs) || one is_ascii_digit (at double.Fraction) (c ∷ cs))
double_fraction c cs = by (c == 101) refl (c == 69) refl
  where
    at_small : (c : ℕ) → c ≡ 101 → at double.Fraction (c ∷ cs) ≡ (letter (c ∷ cs) || one is_ascii_digit (at double.Fraction) (c ∷ cs))
    at_small c is = rw is (double_letter cs ∙ or_none (power cs))

    at_large : (c : ℕ) → c ≡ 69 → at double.Fraction (c ∷ cs) ≡ (letter (c ∷ cs) || one is_ascii_digit (at double.Fraction) (c ∷ cs))
    at_large c is = rw is (double_letter cs ∙ or_none (power cs))

    by : (a : Bool) → (c == 101) ≡ a → (b : Bool) → (c == 69) ≡ b
        → at double.Fraction (c ∷ cs) ≡ (letter (c ∷ cs) || one is_ascii_digit (at double.Fraction) (c ∷ cs))
    by true h b g = at_small c (equal_from c 101 h)
    by false h true g = at_large c (equal_from c 69 g)
    by false h false g = rw (h, g) (chosen (λ s. state.Double s) double.Fraction cs (is_ascii_digit c))

in_fraction : (cs : List ℕ) → at double.Fraction cs ≡ many (one is_ascii_digit) letter cs
in_fraction = in_digits letter (at double.Fraction) goes
  where
    goes : (cs : List ℕ) → at double.Fraction cs ≡ (letter cs || one is_ascii_digit (at double.Fraction) cs)
    goes [] = refl
    goes (c ∷ cs) = double_fraction c cs

double_point : (cs : List ℕ) → at double.Point cs ≡ many (one is_ascii_digit) letter cs
double_point [] = refl
double_point (c ∷ cs) = in_fraction (c ∷ cs)

double_first : (cs : List ℕ) → at double.FirstPoint cs ≡ digits letter cs
double_first [] = refl
double_first (c ∷ cs) =
    chosen (λ s. state.Double s) double.Fraction cs (is_ascii_digit c) ∙ ap (λ b. is_ascii_digit c && b) (in_fraction cs)

abbrev behind_whole : Test
behind_whole = maybe (text (46 ∷ []) before many (one is_ascii_digit)) letter

in_whole : (cs : List ℕ) → at double.Whole cs ≡ many (one is_ascii_digit) behind_whole cs
in_whole = in_digits behind_whole (at double.Whole) goes
  where
    at_point : (cs : List ℕ) (c : ℕ) → c ≡ 46 → at double.Whole (c ∷ cs) ≡ (behind_whole (c ∷ cs) || one is_ascii_digit (at double.Whole) (c ∷ cs))
    at_point cs c is = rw is (double_point cs ∙ or_none (many (one is_ascii_digit) letter cs))

    at_small : (cs : List ℕ) (c : ℕ) → c ≡ 101 → at double.Whole (c ∷ cs) ≡ (behind_whole (c ∷ cs) || one is_ascii_digit (at double.Whole) (c ∷ cs))
    at_small cs c is = rw is (double_letter cs ∙ (or_none (power cs) ∙ or_none (power cs || false)))

    at_large : (cs : List ℕ) (c : ℕ) → c ≡ 69 → at double.Whole (c ∷ cs) ≡ (behind_whole (c ∷ cs) || one is_ascii_digit (at double.Whole) (c ∷ cs))
    at_large cs c is = rw is (double_letter cs ∙ (or_none (power cs) ∙ or_none (power cs || false)))

    by : (cs : List ℕ) (c : ℕ) (p : Bool) → (c == 46) ≡ p → (a : Bool) → (c == 101) ≡ a → (b : Bool) → (c == 69) ≡ b
        → at double.Whole (c ∷ cs) ≡ (behind_whole (c ∷ cs) || one is_ascii_digit (at double.Whole) (c ∷ cs))
    by cs c true hp a h b g = at_point cs c (equal_from c 46 hp)
    by cs c false hp true h b g = at_small cs c (equal_from c 101 h)
    by cs c false hp false h true g = at_large cs c (equal_from c 69 g)
    by cs c false hp false h false g = rw (hp, h, g) (chosen (λ s. state.Double s) double.Whole cs (is_ascii_digit c))

    goes : (cs : List ℕ) → at double.Whole cs ≡ (behind_whole cs || one is_ascii_digit (at double.Whole) cs)
    goes [] = refl
    goes (c ∷ cs) = by cs c (c == 46) refl (c == 101) refl (c == 69) refl

pub double_form : (cs : List ℕ) → accepted kind.Double cs ≡ form kind.Double ended cs
double_form [] = refl
double_form (c ∷ cs) = by (c == 46) refl
  where
    at_point : (c : ℕ) → c ≡ 46 → accepted kind.Double (c ∷ cs) ≡ form kind.Double ended (c ∷ cs)
    at_point c is = rw is (double_first cs)

    by : (b : Bool) → (c == 46) ≡ b → accepted kind.Double (c ∷ cs) ≡ form kind.Double ended (c ∷ cs)
    by true h = at_point c (equal_from c 46 h)
    by false h =
        rw h (chosen_or (λ s. state.Double s) double.Whole cs (is_ascii_digit c)
        ∙ ap (λ b. (is_ascii_digit c && b) || false) (in_whole cs))

-- ---- spans

abbrev span_at : SpanState → Test
span_at s cs = from (state.Span s) cs

behind_seconds : (cs : List ℕ) → span_at (span.Behind part.Seconds) cs ≡ ended cs
behind_seconds [] = refl
behind_seconds (c ∷ cs) = refl

abbrev letter_s : Test
letter_s = text (83 ∷ []) ended

span_fraction : (cs : List ℕ) → span_at span.Fraction cs ≡ many (one is_ascii_digit) letter_s cs
span_fraction = in_digits letter_s (span_at span.Fraction) goes
  where
    at_s : (cs : List ℕ) (c : ℕ) → c ≡ 83 → span_at span.Fraction (c ∷ cs) ≡ (letter_s (c ∷ cs) || one is_ascii_digit (span_at span.Fraction) (c ∷ cs))
    at_s cs c is = rw is (behind_seconds cs ∙ or_none (ended cs))

    by : (cs : List ℕ) (c : ℕ) (b : Bool) → (c == 83) ≡ b
        → span_at span.Fraction (c ∷ cs) ≡ (letter_s (c ∷ cs) || one is_ascii_digit (span_at span.Fraction) (c ∷ cs))
    by cs c true h = at_s cs c (equal_from c 83 h)
    by cs c false h = rw h (chosen (λ s. state.Span s) span.Fraction cs (is_ascii_digit c))

    goes : (cs : List ℕ) → span_at span.Fraction cs ≡ (letter_s cs || one is_ascii_digit (span_at span.Fraction) cs)
    goes [] = refl
    goes (c ∷ cs) = by cs c (c == 83) refl

span_point : (cs : List ℕ) → span_at span.Point cs ≡ digits letter_s cs
span_point [] = refl
span_point (c ∷ cs) =
    chosen (λ s. state.Span s) span.Fraction cs (is_ascii_digit c) ∙ ap (λ b. is_ascii_digit c && b) (span_fraction cs)

-- digits and what ends them
abbrev Goes : SpanState → Test → ℕ → List ℕ → Type 0
Goes s k c cs = span_at s (c ∷ cs) ≡ (k (c ∷ cs) || one is_ascii_digit (span_at s) (c ∷ cs))

digits_end : (s : SpanState) (k : Test) → span_at s [] ≡ (k [] || false) → ((cs : List ℕ) (c : ℕ) → Goes s k c cs)
    → (cs : List ℕ) → span_at s cs ≡ many (one is_ascii_digit) k cs
digits_end s k none some = in_digits k (span_at s) goes
  where
    goes : (cs : List ℕ) → span_at s cs ≡ (k cs || one is_ascii_digit (span_at s) cs)
    goes [] = none
    goes (c ∷ cs) = some cs c

abbrev third : Test
third = seconds ended

minute_digits : (cs : List ℕ) → span_at (span.Digits part.Minutes) cs ≡ many (one is_ascii_digit) third cs
minute_digits = digits_end (span.Digits part.Minutes) third refl (λ cs c. by cs c (c == 46) refl (c == 83) refl)
  where
    at_point : (cs : List ℕ) (c : ℕ) → c ≡ 46 → Goes (span.Digits part.Minutes) third c cs
    at_point cs c is = rw is (span_point cs ∙ or_none (digits letter_s cs))

    at_s : (cs : List ℕ) (c : ℕ) → c ≡ 83 → Goes (span.Digits part.Minutes) third c cs
    at_s cs c is = rw is (behind_seconds cs ∙ (or_none (ended cs) ∙ or_none (ended cs || false)))

    by : (cs : List ℕ) (c : ℕ) (p : Bool) → (c == 46) ≡ p → (a : Bool) → (c == 83) ≡ a → Goes (span.Digits part.Minutes) third c cs
    by cs c true hp a h = at_point cs c (equal_from c 46 hp)
    by cs c false hp true h = at_s cs c (equal_from c 83 h)
    by cs c false hp false h = rw (hp, h) (chosen (λ s. state.Span s) (span.Digits part.Minutes) cs (is_ascii_digit c))

behind_minutes : (cs : List ℕ) → span_at (span.Behind part.Minutes) cs ≡ maybe (digits before seconds) ended cs
behind_minutes [] = refl
behind_minutes (c ∷ cs) =
    chosen (λ s. state.Span s) (span.Digits part.Minutes) cs (is_ascii_digit c) ∙ ap (λ b. is_ascii_digit c && b) (minute_digits cs)

abbrev second : Test
second = minutes ended

hour_digits : (cs : List ℕ) → span_at (span.Digits part.Hours) cs ≡ many (one is_ascii_digit) second cs
hour_digits = digits_end (span.Digits part.Hours) second refl (λ cs c. by cs c (c == 46) refl (c == 83) refl (c == 77) refl)
  where
    at_point : (cs : List ℕ) (c : ℕ) → c ≡ 46 → Goes (span.Digits part.Hours) second c cs
    at_point cs c is = rw is (span_point cs ∙ or_none (digits letter_s cs))

    at_s : (cs : List ℕ) (c : ℕ) → c ≡ 83 → Goes (span.Digits part.Hours) second c cs
    at_s cs c is = rw is (behind_seconds cs ∙ (or_none (ended cs) ∙ or_none (ended cs || false)))

    at_m : (cs : List ℕ) (c : ℕ) → c ≡ 77 → Goes (span.Digits part.Hours) second c cs
    at_m cs c is =
        let k : Bool = maybe (digits before seconds) ended cs in
        rw is (behind_minutes cs ∙ (or_none k ∙ or_none (k || false)))

    by : (cs : List ℕ) (c : ℕ) (p : Bool) → (c == 46) ≡ p → (a : Bool) → (c == 83) ≡ a → (m : Bool) → (c == 77) ≡ m
        → Goes (span.Digits part.Hours) second c cs
    by cs c true hp a h m g = at_point cs c (equal_from c 46 hp)
    by cs c false hp true h m g = at_s cs c (equal_from c 83 h)
    by cs c false hp false h true g = at_m cs c (equal_from c 77 g)
    by cs c false hp false h false g = rw (hp, h, g) (chosen (λ s. state.Span s) (span.Digits part.Hours) cs (is_ascii_digit c))

behind_hours : (cs : List ℕ) → span_at (span.Behind part.Hours) cs ≡ maybe (digits before minutes) ended cs
behind_hours [] = refl
behind_hours (c ∷ cs) =
    chosen (λ s. state.Span s) (span.Digits part.Hours) cs (is_ascii_digit c) ∙ ap (λ b. is_ascii_digit c && b) (hour_digits cs)

abbrev first : Test
first = hours ended

time_digits : (cs : List ℕ) → span_at (span.Digits part.None) cs ≡ many (one is_ascii_digit) first cs
time_digits = digits_end (span.Digits part.None) first refl (λ cs c. by cs c (c == 46) refl (c == 83) refl (c == 77) refl (c == 72) refl)
  where
    at_point : (cs : List ℕ) (c : ℕ) → c ≡ 46 → Goes (span.Digits part.None) first c cs
    at_point cs c is = rw is (span_point cs ∙ or_none (digits letter_s cs))

    at_s : (cs : List ℕ) (c : ℕ) → c ≡ 83 → Goes (span.Digits part.None) first c cs
    at_s cs c is = rw is (behind_seconds cs ∙ (or_none (ended cs) ∙ or_none (ended cs || false)))

    at_m : (cs : List ℕ) (c : ℕ) → c ≡ 77 → Goes (span.Digits part.None) first c cs
    at_m cs c is =
        let k : Bool = maybe (digits before seconds) ended cs in
        rw is (behind_minutes cs ∙ (or_none k ∙ or_none (k || false)))

    at_h : (cs : List ℕ) (c : ℕ) → c ≡ 72 → Goes (span.Digits part.None) first c cs
    at_h cs c is =
        let k : Bool = maybe (digits before minutes) ended cs in
        rw is (behind_hours cs ∙ (or_none k ∙ or_none (k || false)))

    by : (cs : List ℕ) (c : ℕ) (p : Bool) → (c == 46) ≡ p → (a : Bool) → (c == 83) ≡ a → (m : Bool) → (c == 77) ≡ m
        → (h : Bool) → (c == 72) ≡ h → Goes (span.Digits part.None) first c cs
    by cs c true hp a ha m hm h hh = at_point cs c (equal_from c 46 hp)
    by cs c false hp true ha m hm h hh = at_s cs c (equal_from c 83 ha)
    by cs c false hp false ha true hm h hh = at_m cs c (equal_from c 77 hm)
    by cs c false hp false ha false hm true hh = at_h cs c (equal_from c 72 hh)
    by cs c false hp false ha false hm false hh =
        rw (hp, ha, hm, hh) (chosen (λ s. state.Span s) (span.Digits part.None) cs (is_ascii_digit c))

span_time : (cs : List ℕ) → span_at span.Time cs ≡ (digits before hours) ended cs
span_time [] = refl
span_time (c ∷ cs) =
    chosen (λ s. state.Span s) (span.Digits part.None) cs (is_ascii_digit c) ∙ ap (λ b. is_ascii_digit c && b) (time_digits cs)

span_days : (cs : List ℕ) → span_at span.Days cs ≡ maybe time ended cs
span_days [] = refl
span_days (c ∷ cs) = chosen (λ s. state.Span s) span.Time cs (c == 84) ∙ ap (λ b. (c == 84) && b) (span_time cs)

abbrev letter_d : Test
letter_d = text (68 ∷ []) (maybe time ended)

day_digits : (cs : List ℕ) → span_at span.DayDigits cs ≡ many (one is_ascii_digit) letter_d cs
day_digits = digits_end span.DayDigits letter_d refl (λ cs c. by cs c (c == 68) refl)
  where
    at_d : (cs : List ℕ) (c : ℕ) → c ≡ 68 → Goes span.DayDigits letter_d c cs
    at_d cs c is = rw is (span_days cs ∙ or_none (maybe time ended cs))

    by : (cs : List ℕ) (c : ℕ) (b : Bool) → (c == 68) ≡ b → Goes span.DayDigits letter_d c cs
    by cs c true h = at_d cs c (equal_from c 68 h)
    by cs c false h = rw h (chosen (λ s. state.Span s) span.DayDigits cs (is_ascii_digit c))

abbrev begun : Test
begun cs = (digits before (text (68 ∷ []) before maybe time)) ended cs || time ended cs

span_begun : (cs : List ℕ) → span_at span.Begun cs ≡ begun cs
span_begun [] = refl
span_begun (c ∷ cs) = by (c == 84) refl
  where
    at_t : (c : ℕ) → c ≡ 84 → span_at span.Begun (c ∷ cs) ≡ begun (c ∷ cs)
    at_t c is = rw is (span_time cs)

    by : (b : Bool) → (c == 84) ≡ b → span_at span.Begun (c ∷ cs) ≡ begun (c ∷ cs)
    by true h = at_t c (equal_from c 84 h)
    by false h =
        rw h (chosen_or (λ s. state.Span s) span.DayDigits cs (is_ascii_digit c)
        ∙ ap (λ b. (is_ascii_digit c && b) || false) (day_digits cs))

pub span_form : (cs : List ℕ) → accepted kind.Span cs ≡ form kind.Span ended cs
span_form [] = refl
span_form (c ∷ cs) = chosen (λ s. state.Span s) span.Begun cs (c == 80) ∙ ap (λ b. (c == 80) && b) (span_begun cs)
