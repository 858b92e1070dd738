-- Definitions: instants as ISO 8601 and XML Schema's dateTime write them (XML Schema Part 2, section 3.2.7.1), in milliseconds.
use Rattle.std.specs.Prelude.{ℕ, ◌+◌, ◌*◌, Bool, ◌&&◌, ◌||◌, ◌==◌, nat_le, nat_eq, if◌then◌else◌, Option, None, Some, List}
use Rattle.std.specs.Prelude.{length, take, drop, codes, slice_index, ℤ, pos, negsuc, neg_ℤ, ◌+ℤ◌, ◌-ℤ◌, ◌*ℤ◌}
use Rattle.std.specs.Bool.{then_some}
use Rattle.std.specs.Cmp.Lexicographic.{pointwise}
use Rattle.std.specs.Option.{option_and_then}
use Rattle.std.specs.Str.{byte}
use Rattle.jiff_core.specs.Calendar.{days_from_civil, days_in_month}
use Rattle.rsp_spec.specs.Limits.{last_instant}
use Rattle.rsp_text.specs.Digits.{has_form, number, fraction, thousandths}

-- the calendar has this day
abbrev pub exists_day : ℕ → ℕ → ℕ → Bool
exists_day year month day =
    (nat_le 1 month && nat_le month 12) && (nat_le 1 day && nat_le day (days_in_month (pos year) month))

-- `YYYY-MM-DDThh:mm:ss`
unfoldable pub is_date_time : List ℕ → Bool
is_date_time text =
    has_form (codes "0000-00-00T00:00:00") text
    && (exists_day (number 4 0 text) (number 2 5 text) (number 2 8 text)
    && (nat_le (number 2 11 text) 23 && (nat_le (number 2 14 text) 59 && nat_le (number 2 17 text) 59)))

-- the day's number, 0 for 1970-01-01, and the seconds of the day
abbrev pub day_number : List ℕ → ℤ
day_number text = days_from_civil (pos (number 4 0 text)) (number 2 5 text) (number 2 8 text)

abbrev pub seconds_of_day : List ℕ → ℕ
seconds_of_day text = (number 2 11 text * 60 + number 2 14 text) * 60 + number 2 17 text

-- `.` and 1 to 9 digits, or nothing
abbrev pub is_fraction : List ℕ → Bool
is_fraction part = (length part == 0) || (nat_le 2 (length part) && nat_le (length part) 10)

-- how many minutes local time is ahead of UTC: `Z`, or `+hh:mm` or `-hh:mm` of at most 14 hours
unfoldable pub minutes_ahead : List ℕ → Option ℤ
minutes_ahead text =
    let minutes = number 2 1 text * 60 + number 2 4 text in
    let is_offset = (has_form (codes "+00:00") text || has_form (codes "-00:00") text)
    && (nat_le (number 2 4 text) 59 && nat_le minutes (14 * 60)) in
    if pointwise nat_eq text (codes "Z")
    then Some (pos 0)
    else then_some is_offset (if slice_index text 0 == byte "-" then neg_ℤ (pos minutes) else pos minutes)

-- a number of milliseconds since 1970 that is an instant
abbrev pub since_1970 : ℤ → Option ℕ
since_1970 (pos n) = then_some (nat_le n last_instant) n
since_1970 (negsuc n) = None

-- the instant of a date and time, a fraction of a second and a zone
abbrev pub instant_of : List ℕ → List ℕ → List ℕ → Option ℕ
instant_of front part zone =
    let local = (day_number front *ℤ pos 86400000) +ℤ pos (seconds_of_day front * 1000 + thousandths part) in
    option_and_then (λ ahead. if is_date_time front && is_fraction part then since_1970 (local -ℤ (ahead *ℤ pos 60000)) else None)
    (minutes_ahead zone)

unfoldable pub instant : List ℕ → Option ℕ
instant text =
    let part = fraction (drop 19 text) in
    instant_of (take 19 text) part (drop (19 + length part) text)
