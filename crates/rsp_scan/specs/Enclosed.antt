-- Definitions: IRIs and strings as they are written: characters and escapes between two signs (RDF 1.1 N-Quads, section 4;
-- SPARQL 1.1, section 19.8).
--
-- A part is made of characters: nowhere does it hold bytes that aren't UTF-8.
use Rattle.std.specs.Prelude.{◌≡◌, ℕ, Bool, true, not, ◌||◌, ◌==◌, nat_lt, ⊤, List, [], ◌∷◌, ◌++◌, map, length, codes}
use Rattle.std.specs.Prelude.{if◌then◌else◌, Option, None, Some}
use Rattle.std.specs.Char.{encode_utf8, is_ascii_hexdigit}
use Rattle.std.specs.Int.{is_in_range}
use Rattle.std.specs.List.{list_all, concat, AllByRecursion}
use Rattle.std.specs.Str.{encode_utf8_all, byte}
use Rattle.std.specs.Str.Parse.{digits_value}
use Rattle.rsp_terms.specs.Characters.{is_iri_character}

-- a rule: the bytes of a part, those that follow it, and its value
abbrev pub Rule : Type 0 → Type 1
Rule A = List ℕ → List ℕ → A → Type 0

-- a part of the rule stands at the front of a text, before the rest
pub record IsFront {A : Type 0} (rule : Rule A) (text rest : List ℕ) (value : A) : Type 0 where
  pub part : List ℕ
  pub text_is : text ≡ part ++ rest
  pub is : rule part rest value

-- none stands there
abbrev pub HasNoFront : {A : Type 0} → Rule A → List ℕ → Type 0
HasNoFront {A} rule text = (rest : List ℕ) (value : A) → ¬ (IsFront rule text rest value)

-- one stands there, of this value and before this rest, and no other
abbrev pub HasFront : {A : Type 0} → Rule A → List ℕ → A → List ℕ → Type 0
HasFront {A} rule text value rest =
    IsFront rule text rest value
    × ((other : List ℕ) (another : A) → IsFront rule text other another → (another ≡ value) × (other ≡ rest))

-- the text behind one byte of its own, where it stands at the front
unfoldable pub sign : ℕ → List ℕ → Option (List ℕ)
sign c [] = None
sign c (d ∷ text) = if c == d then Some text else None

-- ---- characters of IRIs and strings

abbrev pub is_scalar : ℕ → Bool
is_scalar c = nat_lt c 0xD800 || is_in_range 0xE000 0x10FFFF c

-- what may stand unescaped in a string: all but `"`, `\`, line feed and carriage return
abbrev pub is_string_character : ℕ → Bool
is_string_character c = not ((c == byte "\"") || ((c == byte "\\") || ((c == byte "\n") || (c == byte "\r"))))

pub data Piece : Type 0 where
  plain : ℕ → Piece  -- a character as it is
  short : List ℕ → Piece  -- UCHAR: `\u` and its digits
  long : List ℕ → Piece  -- UCHAR: `\U` and its digits
  named : ℕ → Piece  -- ECHAR: `\` and a character

abbrev pub piece_text : Piece → List ℕ
piece_text (plain c) = encode_utf8 c
piece_text (short digits) = codes "\\u" ++ digits
piece_text (long digits) = codes "\\U" ++ digits
piece_text (named c) = codes "\\" ++ (c ∷ [])

-- so many hexadecimal digits that write this number
abbrev pub IsHexadecimal : ℕ → List ℕ → ℕ → Type 0
IsHexadecimal count digits c = (length digits ≡ count) × (list_all is_ascii_hexdigit digits ≡ true) × (digits_value 16 digits ≡ c)

-- ECHAR: `\` and one of `t b n r f " ' \`
abbrev pub named_character : ℕ → Option ℕ
named_character c =
    if c == byte "t" then Some (byte "\t")
    else (if c == byte "b" then Some 8
    else (if c == byte "n" then Some (byte "\n")
    else (if c == byte "r" then Some (byte "\r")
    else (if c == byte "f" then Some 12
    else (if (c == byte "\"") || ((c == byte "'") || (c == byte "\\")) then Some c else None)))))

-- the piece stands for this character
abbrev pub StandsFor : Piece → ℕ → Type 0
StandsFor (plain c) d = c ≡ d
StandsFor (short digits) d = IsHexadecimal 4 digits d
StandsFor (long digits) d = IsHexadecimal 8 digits d
StandsFor (named c) d = named_character c ≡ Some d

-- in an IRI, an IRI character as it is or as UCHAR
abbrev pub IsIriPiece : Piece → ℕ → Type 0
IsIriPiece (named c) d = ⊥
IsIriPiece _ d = is_iri_character d ≡ true

-- in a string, a string character as it is, or any as UCHAR or ECHAR
abbrev pub IsStringPiece : Piece → ℕ → Type 0
IsStringPiece (plain c) d = is_string_character d ≡ true
IsStringPiece _ d = ⊤

-- a piece beside the character that it stands for, a Unicode scalar value
abbrev pub IsPieceOf : (Piece → ℕ → Type 0) → Piece × ℕ → Type 0
IsPieceOf may x = (is_scalar x.1 ≡ true) × StandsFor x.0 x.1 × may x.0 x.1

-- pieces between an opening and a closing sign; the value is their characters in UTF-8
pub record IsEnclosed (may : Piece → ℕ → Type 0) (opening closing : ℕ) (part value : List ℕ) : Type 0 where
  pub pieces : List (Piece × ℕ)
  pub each : AllByRecursion (IsPieceOf may) pieces
  pub part_is : part ≡ opening ∷ (concat (map (λ x. piece_text x.0) pieces) ++ (closing ∷ []))
  pub value_is : value ≡ encode_utf8_all (map (λ x. x.1) pieces)

-- IRIREF
abbrev pub IsIri : Rule (List ℕ)
IsIri part rest name = IsEnclosed IsIriPiece (byte "<") (byte ">") part name

-- STRING_LITERAL_QUOTE
abbrev pub IsString : Rule (List ℕ)
IsString part rest lexical = IsEnclosed IsStringPiece (byte "\"") (byte "\"") part lexical
