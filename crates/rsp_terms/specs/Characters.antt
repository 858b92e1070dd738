-- Definitions: characters, by their code points, and the texts that IRIs, labels and language tags are made of.
--
-- A language here is a test of a list of code points; `chars` of std gives those that the bytes of a text spell.
use Rattle.std.specs.Prelude.{ℕ, ◌==◌, Bool, false, not, ◌&&◌, ◌||◌, List, [], ◌∷◌, length}
use Rattle.std.specs.Char.{is_ascii_alphabetic, is_ascii_alphanumeric, is_ascii_digit}
use Rattle.std.specs.Int.{is_in_range}
use Rattle.std.specs.List.{list_any, list_all, slice_split}
use Rattle.std.specs.Str.{byte}

-- one of the numbers, the first and the last of a range among them
abbrev pub is_among : List (ℕ × ℕ) → ℕ → Bool
is_among ranges c = list_any (λ range. is_in_range range.0 range.1 c) ranges

-- RDF 1.1 N-Quads, section 4: PN_CHARS_BASE
abbrev pub base_ranges : List (ℕ × ℕ)
base_ranges =
    (byte "A", byte "Z") ∷ (byte "a", byte "z") ∷ (0xC0, 0xD6) ∷ (0xD8, 0xF6) ∷ (0xF8, 0x2FF) ∷ (0x370, 0x37D) ∷ (0x37F, 0x1FFF)
    ∷ (0x200C, 0x200D) ∷ (0x2070, 0x218F) ∷ (0x2C00, 0x2FEF) ∷ (0x3001, 0xD7FF) ∷ (0xF900, 0xFDCF) ∷ (0xFDF0, 0xFFFD)
    ∷ (0x10000, 0xEFFFF) ∷ []

abbrev pub is_base : ℕ → Bool
is_base c = is_among base_ranges c

-- PN_CHARS_U: also `_` and `:`
abbrev pub is_name_start : ℕ → Bool
is_name_start c = is_base c || (c == byte "_" || c == byte ":")

-- PN_CHARS: also `-`, digits, the middle dot, combining marks and ties
abbrev pub name_ranges : List (ℕ × ℕ)
name_ranges = (byte "-", byte "-") ∷ (byte "0", byte "9") ∷ (0xB7, 0xB7) ∷ (0x300, 0x36F) ∷ (0x203F, 0x2040) ∷ []

abbrev pub is_name_character : ℕ → Bool
is_name_character c = is_name_start c || is_among name_ranges c

-- BLANK_NODE_LABEL behind `_:`
abbrev pub is_label_start : ℕ → Bool
is_label_start c = is_name_start c || is_ascii_digit c

abbrev pub is_label_character : ℕ → Bool
is_label_character c = is_name_character c || c == byte "."

-- the last of these characters
abbrev pub last_of : ℕ → List ℕ → ℕ
last_of first [] = first
last_of first (c ∷ others) = last_of c others

-- a whole label: no `.` is its last character
abbrev pub is_label_text : List ℕ → Bool
is_label_text [] = false
is_label_text (first ∷ others) =
    is_label_start first && (list_all is_label_character others && not (last_of first others == byte "."))

-- IRIREF without escapes: all but U+0000 to U+0020 and the nine characters `<` `>` `"` `{` `}` `|` `^` `` ` `` `\`
abbrev pub non_iri_ranges : List (ℕ × ℕ)
non_iri_ranges =
    (0, byte " ") ∷ (byte "\"", byte "\"") ∷ (byte "<", byte "<") ∷ (byte ">", byte ">") ∷ (byte "\\", byte "\\")
    ∷ (byte "^", byte "^") ∷ (byte "`", byte "`") ∷ (byte "{", byte "}") ∷ []

abbrev pub is_iri_character : ℕ → Bool
is_iri_character c = not (is_among non_iri_ranges c)

-- RFC 3986, section 3.1: a letter, then letters, digits, `+`, `-` and `.`, then `:`
abbrev pub is_scheme_character : ℕ → Bool
is_scheme_character c = is_ascii_alphanumeric c || (c == byte "+" || (c == byte "-" || c == byte "."))

abbrev pub goes_on_to_colon : List ℕ → Bool
goes_on_to_colon [] = false
goes_on_to_colon (c ∷ others) = c == byte ":" || (is_scheme_character c && goes_on_to_colon others)

-- the IRI begins with a scheme
abbrev pub is_absolute : List ℕ → Bool
is_absolute [] = false
is_absolute (first ∷ others) = is_ascii_alphabetic first && goes_on_to_colon others

abbrev pub is_iri_text : List ℕ → Bool
is_iri_text text = list_all is_iri_character text && is_absolute text

-- RDF 1.1 N-Quads, section 4: LANGTAG behind `@`, `[a-zA-Z]+ ('-' [a-zA-Z0-9]+)*`
abbrev pub is_run_of : (ℕ → Bool) → List ℕ → Bool
is_run_of test text = not (length text == 0) && list_all test text

abbrev pub are_subtags : List (List ℕ) → Bool
are_subtags [] = false
are_subtags (first ∷ others) = is_run_of is_ascii_alphabetic first && list_all (is_run_of is_ascii_alphanumeric) others

-- each character of a tag is ASCII, so that this can be said of bytes as of code points
abbrev pub is_tag_text : List ℕ → Bool
is_tag_text text = are_subtags (slice_split (λ c. c == byte "-") text)
