-- Definitions: spans of time as ISO 8601 writes them (XML Schema Part 2, section 3.2.6.1), in days, hours, minutes and seconds.
use Rattle.std.specs.Prelude.{ℕ, ◌+◌, ◌*◌, Bool, not, ◌&&◌, ◌==◌, nat_le, nat_eq, if◌then◌else◌, Option, None, Some, List, []}
use Rattle.std.specs.Prelude.{◌∷◌, length, drop, codes}
use Rattle.std.specs.Bool.{then_some}
use Rattle.std.specs.Cmp.Lexicographic.{pointwise}
use Rattle.std.specs.List.{starts_with}
use Rattle.std.specs.Option.{option_and_then, option_map}
use Rattle.std.specs.Str.{byte}
use Rattle.std.specs.Str.Parse.{digits_value}
use Rattle.rsp_spec.specs.Limits.{last_instant}
use Rattle.rsp_text.specs.Fronts.{leading_digits}
use Rattle.rsp_text.specs.Digits.{fraction, thousandths}

-- the digits of a count with its unit, as `5H`, that the text begins with, and the text behind it; no digits where none stands
-- there
abbrev pub count : ℕ → List ℕ → List ℕ × List ℕ
count unit text =
    let digits = leading_digits text in
    let stands = not (length digits == 0) && starts_with nat_eq (drop (length digits) text) (unit ∷ []) in
    if stands then (digits, drop (length digits + 1) text) else ([], text)

-- digits, optionally `.` and digits, and `S`, with nothing behind; or nothing at all
unfoldable pub seconds : List ℕ → Option ℕ
seconds text =
    let whole = leading_digits text in
    let part = fraction (drop (length whole) text) in
    let stands = not (length whole == 0) && not (length part == 1) in
    if length text == 0
    then Some 0
    else then_some (stands && pointwise nat_eq (drop (length whole + length part) text) (codes "S"))
    (digits_value 10 whole * 1000 + thousandths part)

-- hours, minutes and seconds in this order, each of which may be wanting, but not all
unfoldable pub clock : List ℕ → Option ℕ
clock text =
    let hours = count (byte "H") text in
    let minutes = count (byte "M") hours.1 in
    if length text == 0
    then None
    else option_map (λ ms. digits_value 10 hours.0 * 3600000 + (digits_value 10 minutes.0 * 60000 + ms)) (seconds minutes.1)

-- `T` and a clock, or nothing behind days
abbrev pub behind_days : Bool → List ℕ → Option ℕ
behind_days are_days [] = then_some are_days 0
behind_days are_days (c ∷ text) = if c == byte "T" then clock text else None

unfoldable pub span : List ℕ → Option ℕ
span [] = None
span (c ∷ text) =
    let days = count (byte "D") text in
    let all = option_map (λ ms. digits_value 10 days.0 * 86400000 + ms) (behind_days (not (length days.0 == 0)) days.1) in
    if c == byte "P" then option_and_then (λ ms. then_some (nat_le ms last_instant) ms) all else None
