-- Definitions: escapes character by character, behind their `\` (SPARQL 1.1, sections 19.2 and 19.8: UCHAR, ECHAR).
use Rattle.std.specs.Prelude.{ℕ, ◌+◌, ◌-◌, ◌*◌, ◌&&◌, ◌==◌, nat_le, if◌then◌else◌, Option, None, Some}
use Rattle.std.specs.Char.{is_ascii_hexdigit, digit_value}
use Rattle.std.specs.Option.{option_map, option_or}
use Rattle.std.specs.Str.{byte}
use Rattle.rsp_scan.specs.Enclosed.{is_scalar, named_character}
use Rattle.rsp_scan.specs.declared.escaping.Escape.{Escape}
use Rattle.rsp_scan.specs.declared.escaping.Escape.TheVariants.{Begun, Digits}
use Rattle.rsp_scan.specs.declared.escaping.Escaped.{Escaped}
use Rattle.rsp_scan.specs.declared.escaping.Escaped.TheVariants.{More, Whole}

-- UCHAR: the last digit makes a Unicode scalar value
abbrev pub behind_digit : ℕ → ℕ → Option Escaped
behind_digit left value =
    if nat_le left 1 then (if is_scalar value then Some (Whole value) else None) else Some (More (Digits (left - 1) value))

-- UCHAR has 4 digits behind `\u`, and 8 behind `\U`
abbrev pub uchar_step : Escape → ℕ → Option Escaped
uchar_step Begun c =
    if c == byte "u" then Some (More (Digits 4 0)) else (if c == byte "U" then Some (More (Digits 8 0)) else None)
uchar_step (Digits left value) c =
    if is_ascii_hexdigit c && nat_le value 0x10FFFF then behind_digit left (16 * value + digit_value c) else None

-- ECHAR is a name, UCHAR the others
abbrev pub escape_step : Escape → ℕ → Option Escaped
escape_step Begun c = option_or (option_map Whole (named_character c)) (uchar_step Begun c)
escape_step (Digits left value) c = uchar_step (Digits left value) c
