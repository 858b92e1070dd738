-- Words of the way: how what is enclosed, labels and tags are read. Each reader gives the value of the part that stands at
-- the front of a text and the text behind it, or nothing where no such part stands there.
--
-- Each character that ends a part is ASCII, and no byte of another character is, so bytes tell where a part ends; labels
-- alone are read by code points.
use Rattle.std.specs.Prelude.{ℕ, zero, suc, Bool, ◌&&◌, ◌==◌, if◌then◌else◌, Option, None, Some, List, [], ◌∷◌, ◌++◌, length}
use Rattle.std.specs.Prelude.{take, drop}
use Rattle.std.specs.Char.{encode_utf8, is_ascii_hexdigit}
use Rattle.std.specs.List.{list_all, take_while}
use Rattle.std.specs.Option.{option_map, option_map_or, option_and_then, option_or}
use Rattle.std.specs.Str.{byte, chars, encode_utf8_all, is_utf8}
use Rattle.std.specs.Str.Lossy.{utf8_valid_len}
use Rattle.std.specs.Str.Parse.{digits_value}
use Rattle.rsp_terms.specs.Characters.{is_iri_character, is_label_text, is_tag_text}
use Rattle.rsp_scan.specs.Enclosed.{is_scalar, is_string_character, named_character, sign}
use Rattle.rsp_scan.specs.Fronts.{longest_front}

-- what reads a part of value A
abbrev pub PartReader : Type 0 → Type 0
PartReader A = List ℕ → Option (A × List ℕ)

-- the text behind a front of it
abbrev pub behind : List ℕ → List ℕ → List ℕ
behind front text = drop (length front) text

-- the same value, told as another
abbrev pub told : {A B : Type 0} → (A → B) → Option (A × List ℕ) → Option (B × List ℕ)
told f read = option_map (λ x. (f x.0, x.1)) read

-- ---- escapes: the code point of the character that an escape stands for

-- so many hexadecimal digits that name a Unicode scalar value
abbrev pub code_point : ℕ → PartReader ℕ
code_point count text =
    let digits = take count text in
    let c = digits_value 16 digits in
    if (length digits == count) && (list_all is_ascii_hexdigit digits && is_scalar c)
    then Some (c, drop count text)
    else None

-- UCHAR: `\u` with 4 digits, `\U` with 8
unfoldable pub uchar : PartReader ℕ
uchar (c ∷ d ∷ text) =
    if c == byte "\\"
    then (if d == byte "u" then code_point 4 text else (if d == byte "U" then code_point 8 text else None))
    else None
uchar _ = None

-- ECHAR
unfoldable pub echar : PartReader ℕ
echar (c ∷ d ∷ text) = if c == byte "\\" then option_map (λ named. (named, text)) (named_character d) else None
echar _ = None

-- in an IRI a UCHAR must name an IRI character
unfoldable pub iri_escape : PartReader ℕ
iri_escape text = option_and_then (λ x. if is_iri_character x.0 then Some x else None) (uchar text)

unfoldable pub string_escape : PartReader ℕ
string_escape text = option_or (echar text) (uchar text)

-- ---- enclosed parts

abbrev pub onto : List ℕ → Option (List ℕ × List ℕ) → Option (List ℕ × List ℕ)
onto front read = told (λ others. front ++ others) read

-- Plain characters, an escape, plain characters, and so on, as far as they go, with escapes replaced. `most` bounds the
-- number of runs; a text has fewer escapes than bytes.
unfoldable pub spelled : ℕ → (ℕ → Bool) → PartReader ℕ → PartReader (List ℕ)
spelled zero plain escape text = None
spelled (suc most) plain escape text =
    let run = take_while plain text in
    if is_utf8 run
    then
    option_map_or
    (λ x. onto (run ++ encode_utf8 x.0) (spelled most plain escape x.1))
    (escape (behind run text))
    (Some (run, behind run text))
    else None

-- an opening sign, what is spelled, a closing sign
unfoldable pub enclosed : ℕ → ℕ → (ℕ → Bool) → PartReader ℕ → PartReader (List ℕ)
enclosed opening closing plain escape text =
    option_and_then
    (λ inner.
    option_and_then
    (λ x. option_map (λ rest. (x.0, rest)) (sign closing x.1))
    (spelled (suc (length inner)) plain escape inner))
    (sign opening text)

-- IRIREF
unfoldable pub iri : PartReader (List ℕ)
iri = enclosed (byte "<") (byte ">") is_iri_character iri_escape

-- STRING_LITERAL_QUOTE
unfoldable pub string : PartReader (List ℕ)
string = enclosed (byte "\"") (byte "\"") is_string_character string_escape

-- ---- labels and tags

-- BLANK_NODE_LABEL: `_:` and the longest label behind it
abbrev pub longest_label : List ℕ → List ℕ
longest_label text = encode_utf8_all (longest_front is_label_text (chars (take (utf8_valid_len text) text)))

-- the part is there where something of it is
abbrev pub some_of : List ℕ → PartReader (List ℕ)
some_of front text = if length front == 0 then None else Some (front, behind front text)

unfoldable pub label : PartReader (List ℕ)
label text =
    option_and_then (λ inner. some_of (longest_label inner) inner)
    (option_and_then (sign (byte ":")) (sign (byte "_") text))

-- LANGTAG: `@` and the longest tag behind it
unfoldable pub tag : PartReader (List ℕ)
tag text = option_and_then (λ inner. some_of (longest_front is_tag_text inner) inner) (sign (byte "@") text)
