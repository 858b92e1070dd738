-- Words of the way: IRIs and strings as automata: the state behind each character, and the states in which one may end
-- (SPARQL 1.1, section 19.8: IRIREF, STRING_LITERAL1, STRING_LITERAL2, STRING_LITERAL_LONG1, STRING_LITERAL_LONG2, ECHAR,
-- UCHAR).
use Rattle.std.specs.Prelude.{ℕ, ◌+◌, Bool, true, false, ◌||◌, ◌==◌, nat_lt, if◌then◌else◌, Option, None, Some}
use Rattle.std.specs.Option.{option_map, option_and_then}
use Rattle.std.specs.Str.{byte}
use Rattle.rsp_terms.specs.Characters.{is_iri_character}
use Rattle.rsp_scan.specs.declared.escaping.Escape.TheVariants.{Begun}
use Rattle.rsp_scan.specs.declared.escaping.Escaped.{Escaped}
use Rattle.rsp_scan.specs.declared.escaping.Escaped.TheVariants.{More, Whole}
use Rattle.rsp_scan.specs.Escaping.{uchar_step, escape_step}
use Rattle.rsp_lex.specs.declared.quoted.IriState.{IriState}
use Rattle.rsp_lex.specs.declared.quoted.IriState.TheVariants as iri
use Rattle.rsp_lex.specs.declared.quoted.Quote.{Quote}
use Rattle.rsp_lex.specs.declared.quoted.Quote.TheVariants.{Double, Single}
use Rattle.rsp_lex.specs.declared.quoted.StringState.{StringState}
use Rattle.rsp_lex.specs.declared.quoted.StringState.TheVariants as string

-- ---- IRIs

abbrev pub iri_inside : ℕ → Option IriState
iri_inside c =
    if c == byte ">" then Some iri.Closed
    else (if c == byte "\\" then Some (iri.Escape Begun)
    else (if is_iri_character c then Some iri.Inside else None))

abbrev pub iri_behind : Escaped → Option IriState
iri_behind (More escape) = Some (iri.Escape escape)
iri_behind (Whole c) = if is_iri_character c then Some iri.Inside else None

abbrev pub iri_step : IriState → ℕ → Option IriState
iri_step iri.Start c = if c == byte "<" then Some iri.Inside else None
iri_step iri.Inside c = iri_inside c
iri_step (iri.Escape escape) c = option_and_then iri_behind (uchar_step escape c)
iri_step iri.Closed c = None

abbrev pub iri_ends : IriState → Bool
iri_ends iri.Closed = true
iri_ends _ = false

-- ---- strings

abbrev pub quote_sign : Quote → ℕ
quote_sign Double = byte "\""
quote_sign Single = byte "'"

abbrev pub is_quote : Quote → ℕ → Bool
is_quote quote c = c == quote_sign quote

abbrev pub string_start : ℕ → Option StringState
string_start c =
    if c == byte "\"" then Some (string.Opened Double) else (if c == byte "'" then Some (string.Opened Single) else None)

-- a short string has no line feed and no carriage return
abbrev pub short_step : Quote → ℕ → Option StringState
short_step quote c =
    if c == byte "\\" then Some (string.ShortEscape quote Begun)
    else (if c == byte "\n" || c == byte "\r" then None else Some (string.Short quote))

-- a long string ends at its first three quotes
abbrev pub long_step : Quote → ℕ → ℕ → StringState
long_step quote quotes c =
    if is_quote quote c then (if nat_lt quotes 2 then string.Long quote (quotes + 1) else string.Closed)
    else (if c == byte "\\" then string.LongEscape quote Begun else string.Long quote 0)

abbrev pub short_behind : Quote → Escaped → StringState
short_behind quote (More escape) = string.ShortEscape quote escape
short_behind quote (Whole c) = string.Short quote

abbrev pub long_behind : Quote → Escaped → StringState
long_behind quote (More escape) = string.LongEscape quote escape
long_behind quote (Whole c) = string.Long quote 0

abbrev pub string_step : StringState → ℕ → Option StringState
string_step string.Start c = string_start c
string_step (string.Opened quote) c = if is_quote quote c then Some (string.Empty quote) else short_step quote c
string_step (string.Empty quote) c = if is_quote quote c then Some (string.Long quote 0) else None
string_step (string.Short quote) c = if is_quote quote c then Some string.Closed else short_step quote c
string_step (string.ShortEscape quote escape) c = option_map (short_behind quote) (escape_step escape c)
string_step (string.Long quote quotes) c = Some (long_step quote quotes c)
string_step (string.LongEscape quote escape) c = option_map (long_behind quote) (escape_step escape c)
string_step string.Closed c = None

-- two quotes are an empty string
abbrev pub string_ends : StringState → Bool
string_ends (string.Empty quote) = true
string_ends string.Closed = true
string_ends _ = false
