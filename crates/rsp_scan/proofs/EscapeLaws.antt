-- Escapes in IRIs and strings, as readers and as pieces.
use Rattle.std.proofs.Common.{◌≡◌, ◌≢◌, ℕ, ◌≤◌, Bool, true, false, List, [], ◌∷◌, ◌++◌, length, take, drop, refl, sym, ap, ◌∙◌, arith, Option, Some, None, if◌then◌else◌}
use Rattle.std.specs.Prelude.{◌==◌, ⊤}
use Rattle.std.specs.Char.{is_ascii_hexdigit}
use Rattle.std.specs.List.{list_all}
use Rattle.std.specs.Option.{option_map, option_and_then, option_or}
use Rattle.std.specs.Str.Parse.{digits_value}
use Rattle.std.proofs.lemmas.Bool.Decides.{nat_tests}
use Rattle.std.proofs.lemmas.List.{take-append-drop}
use Rattle.rsp_spec.proofs.Truths.{and_left, and_right, equal_from, differs}
use Rattle.rsp_terms.specs.Characters.{is_iri_character}
use Rattle.rsp_scan.specs.Readers.{code_point, uchar, echar, iri_escape, string_escape}
use Rattle.rsp_scan.specs.Enclosed.{Piece, plain, short, long, named, piece_text, IsHexadecimal, StandsFor, IsIriPiece, IsStringPiece, named_character, is_scalar, is_string_character}
use Rattle.rsp_scan.proofs.Fronts.{take_front, drop_front}
use Rattle.rsp_scan.proofs.Pieces.{IsEscape, Spells}

equal_to : (c d : ℕ) → c ≡ d → (c == d) ≡ true
equal_to c d is = grind (arith, nat_tests)

abbrev found_as : ℕ → List ℕ → Option (ℕ × List ℕ)
found_as c rest = Some (c, rest)

found_same : (c d : ℕ) (xs ys : List ℕ) → found_as c xs ≡ found_as d ys → (c ≡ d) × (xs ≡ ys)
found_same c d xs ys is =
    let same : ◌≡◌ {A = ℕ × List ℕ} (c, xs) (d, ys) = cc in
    (ap (λ (y : ℕ × List ℕ). y.0) same, ap (λ (y : ℕ × List ℕ). y.1) same)

-- the answer of a test that let something pass
record Passed (b : Bool) (c d : ℕ) (xs ys : List ℕ) : Type 0 where
  test : b ≡ true
  value : c ≡ d
  rest : xs ≡ ys

passed : (b : Bool) (c d : ℕ) (xs ys : List ℕ) → (if b then found_as c xs else None) ≡ found_as d ys → Passed b c d xs ys
passed true c d xs ys is = let same = found_same c d xs ys is in record { test = refl; value = same.0; rest = same.1 }
passed false c d xs ys is = absurd (cc)

-- ---- numbers

record Numbered (count : ℕ) (text rest : List ℕ) (c : ℕ) : Type 0 where
  digits : List ℕ
  text_is : text ≡ digits ++ rest
  number : IsHexadecimal count digits c
  scalar : is_scalar c ≡ true

code_point_found : (count : ℕ) (text rest : List ℕ) (c : ℕ) → code_point count text ≡ found_as c rest → Numbered count text rest c
code_point_found count text rest c is =
    let digits = take count text in
    let p = passed _ (digits_value 16 (take count text)) c (drop count text) rest is in
    let size = and_left (length (take count text) == count) _ p.test in
    let both = and_right (length (take count text) == count) _ p.test in
    record {
      digits = take count text;
      text_is = sym (take-append-drop count text) ∙ ap (λ ys. take count text ++ ys) p.rest;
      number = (equal_from _ _ size, and_left _ (is_scalar (digits_value 16 (take count text))) both, p.value);
      scalar = ap is_scalar (sym p.value) ∙ and_right (list_all is_ascii_hexdigit (take count text)) _ both;
    }

code_point_finds : (count : ℕ) (digits rest : List ℕ) (c : ℕ) → IsHexadecimal count digits c → is_scalar c ≡ true
    → code_point count (digits ++ rest) ≡ found_as c rest
code_point_finds count digits rest c number scalar =
    let front : take count (digits ++ rest) ≡ digits = ap (λ n. take n (digits ++ rest)) (sym number.0) ∙ take_front digits rest in
    let behind : drop count (digits ++ rest) ≡ rest = ap (λ n. drop n (digits ++ rest)) (sym number.0) ∙ drop_front digits rest in
    rw (front, behind, equal_to (length digits) count number.0, number.1, number.2, scalar) refl

-- ---- UCHAR

abbrev IsUchar : Piece → Type 0
IsUchar (short digits) = ⊤
IsUchar (long digits) = ⊤
IsUchar _ = ⊥

record Escaped (is_kind : Piece → Type 0) (text rest : List ℕ) (c : ℕ) : Type 0 where
  piece : Piece
  kind : is_kind piece
  text_is : text ≡ piece_text piece ++ rest
  scalar : is_scalar c ≡ true
  stands : StandsFor piece c

uchar_found : (text rest : List ℕ) (c : ℕ) → uchar text ≡ found_as c rest → Escaped IsUchar text rest c
unfolding uchar
uchar_found [] rest c is = absurd (cc)
uchar_found (a ∷ []) rest c is = absurd (cc)
uchar_found (a ∷ b ∷ text) rest c is = by (a == 92) (b == 117) (b == 85) refl refl refl is
  where
    by : (bar u v : Bool) → (a == 92) ≡ bar → (b == 117) ≡ u → (b == 85) ≡ v
        → (if bar then (if u then code_point 4 text else (if v then code_point 8 text else None)) else None) ≡ found_as c rest
        → Escaped IsUchar (a ∷ b ∷ text) rest c
    by false u v ha hb hc is = absurd (cc)
    by true true v ha hb hc is =
        let n = code_point_found 4 text rest c is in
        record {
          piece = short n.digits;
          kind = tt;
          text_is = rw (equal_from a 92 ha, equal_from b 117 hb) (ap (λ ys. 92 ∷ 117 ∷ ys) n.text_is);
          scalar = n.scalar;
          stands = n.number;
        }
    by true false true ha hb hc is =
        let n = code_point_found 8 text rest c is in
        record {
          piece = long n.digits;
          kind = tt;
          text_is = rw (equal_from a 92 ha, equal_from b 85 hc) (ap (λ ys. 92 ∷ 85 ∷ ys) n.text_is);
          scalar = n.scalar;
          stands = n.number;
        }
    by true false false ha hb hc is = absurd (cc)

uchar_finds : (p : Piece) (c : ℕ) (rest : List ℕ) → IsUchar p → is_scalar c ≡ true → StandsFor p c → uchar (piece_text p ++ rest) ≡ found_as c rest
unfolding uchar
uchar_finds (plain d) c rest kind scalar stands = absurd kind
uchar_finds (named d) c rest kind scalar stands = absurd kind
uchar_finds (short digits) c rest kind scalar stands = code_point_finds 4 digits rest c stands scalar
uchar_finds (long digits) c rest kind scalar stands = code_point_finds 8 digits rest c stands scalar

uchar_none : (c : ℕ) (rest : List ℕ) → c ≢ 92 → uchar (c ∷ rest) ≡ None
unfolding uchar
uchar_none c [] other = refl
uchar_none c (d ∷ rest) other = rw (differs c 92 other) refl

-- ---- ECHAR

abbrev IsNamed : Piece → Type 0
IsNamed (named d) = ⊤
IsNamed _ = ⊥

abbrev known : ℕ → ℕ → Type 0
known d c = is_scalar c ≡ true

named_scalar : (d c : ℕ) → named_character d ≡ Some c → is_scalar c ≡ true
named_scalar d c is = grind (arith, nat_tests)

echar_found : (text rest : List ℕ) (c : ℕ) → echar text ≡ found_as c rest → Escaped IsNamed text rest c
unfolding echar
echar_found [] rest c is = absurd (cc)
echar_found (a ∷ []) rest c is = absurd (cc)
echar_found (a ∷ d ∷ text) rest c is = by (a == 92) refl (named_character d) refl is
  where
    by : (bar : Bool) → (a == 92) ≡ bar → (o : Option ℕ) → named_character d ≡ o
        → (if bar then option_map (λ n. (n, text)) o else None) ≡ found_as c rest → Escaped IsNamed (a ∷ d ∷ text) rest c
    by false ha o ho is = absurd (cc)
    by true ha None ho is = absurd (cc)
    by true ha (Some n) ho is =
        let same = found_same n c text rest is in
        let name : named_character d ≡ Some c = ho ∙ ap (λ x. Some x) same.0 in
        record {
          piece = named d;
          kind = tt;
          text_is = rw (equal_from a 92 ha) (ap (λ ys. 92 ∷ d ∷ ys) same.1);
          scalar = named_scalar d c name;
          stands = name;
        }

echar_finds : (d c : ℕ) (rest : List ℕ) → named_character d ≡ Some c → echar (92 ∷ d ∷ rest) ≡ found_as c rest
unfolding echar
echar_finds d c rest is = rw is refl

echar_none : (c : ℕ) (rest : List ℕ) → c ≢ 92 → echar (c ∷ rest) ≡ None
unfolding echar
echar_none c [] other = refl
echar_none c (d ∷ rest) other = rw (differs c 92 other) refl

-- ---- in IRIs

iri_wide : (c : ℕ) → 128 ≤ c → is_iri_character c ≡ true
iri_wide c high = grind (arith, nat_tests)

iri_found : (text rest : List ℕ) (c : ℕ) → iri_escape text ≡ found_as c rest
    → (p : Piece) × ((text ≡ piece_text p ++ rest) × (is_scalar c ≡ true) × StandsFor p c × IsIriPiece p c)
unfolding iri_escape
iri_found text rest c is = by (uchar text) refl is
  where
    piece_of : (x : ℕ × List ℕ) → uchar text ≡ Some x → Passed (is_iri_character x.0) x.0 c x.1 rest
        → (p : Piece) × ((text ≡ piece_text p ++ rest) × (is_scalar c ≡ true) × StandsFor p c × IsIriPiece p c)
    piece_of x read p =
        let e = uchar_found text rest c (read ∙ rw (p.value, p.rest) refl) in
        let passes : is_iri_character c ≡ true = ap is_iri_character (sym p.value) ∙ p.test in
        kinds e.piece e.kind e.text_is e.scalar e.stands passes
      where
        kinds : (q : Piece) → IsUchar q → text ≡ piece_text q ++ rest → is_scalar c ≡ true → StandsFor q c → is_iri_character c ≡ true
            → (p : Piece) × ((text ≡ piece_text p ++ rest) × (is_scalar c ≡ true) × StandsFor p c × IsIriPiece p c)
        kinds (plain d) kind t s st passes = absurd kind
        kinds (named d) kind t s st passes = absurd kind
        kinds (short ds) kind t s st passes = (short ds, (t, s, st, passes))
        kinds (long ds) kind t s st passes = (long ds, (t, s, st, passes))

    by : (o : Option (ℕ × List ℕ)) → uchar text ≡ o
        → option_and_then (λ x. if is_iri_character x.0 then Some x else None) o ≡ found_as c rest
        → (p : Piece) × ((text ≡ piece_text p ++ rest) × (is_scalar c ≡ true) × StandsFor p c × IsIriPiece p c)
    by None read is = absurd (cc)
    by (Some x) read is = piece_of x read (passed (is_iri_character x.0) x.0 c x.1 rest is)

iri_finds : (p : Piece) (c : ℕ) (rest : List ℕ) → IsEscape p → is_scalar c ≡ true → StandsFor p c → IsIriPiece p c
    → iri_escape (piece_text p ++ rest) ≡ found_as c rest
unfolding iri_escape
iri_finds (plain d) c rest kind scalar stands may = absurd kind
iri_finds (named d) c rest kind scalar stands may = absurd may
iri_finds (short ds) c rest kind scalar stands may = rw (uchar_finds (short ds) c rest tt scalar stands, may) refl
iri_finds (long ds) c rest kind scalar stands may = rw (uchar_finds (long ds) c rest tt scalar stands, may) refl

iri_none : (c : ℕ) (rest : List ℕ) → c ≢ 92 → iri_escape (c ∷ rest) ≡ None
unfolding iri_escape
iri_none c rest other = rw (uchar_none c rest other) refl

pub iri_spells : Spells is_iri_character iri_escape IsIriPiece
iri_spells = record {
  wide = iri_wide;
  may_from = λ c h. h;
  may_to = λ c h. h;
  bar = refl;
  found = iri_found;
  finds = iri_finds;
  none = iri_none;
}

-- ---- in strings

string_wide : (c : ℕ) → 128 ≤ c → is_string_character c ≡ true
string_wide c high = grind (arith, nat_tests)

string_bar : is_string_character 92 ≡ false
string_bar = refl

string_found : (text rest : List ℕ) (c : ℕ) → string_escape text ≡ found_as c rest
    → (p : Piece) × ((text ≡ piece_text p ++ rest) × (is_scalar c ≡ true) × StandsFor p c × IsStringPiece p c)
unfolding string_escape
string_found text rest c is = by (echar text) refl is
  where
    of_name : Escaped IsNamed text rest c → (p : Piece) × ((text ≡ piece_text p ++ rest) × (is_scalar c ≡ true) × StandsFor p c × IsStringPiece p c)
    of_name e = kinds e.piece e.kind e.text_is e.scalar e.stands
      where
        kinds : (q : Piece) → IsNamed q → text ≡ piece_text q ++ rest → is_scalar c ≡ true → StandsFor q c
            → (p : Piece) × ((text ≡ piece_text p ++ rest) × (is_scalar c ≡ true) × StandsFor p c × IsStringPiece p c)
        kinds (plain d) kind t s st = absurd kind
        kinds (short ds) kind t s st = absurd kind
        kinds (long ds) kind t s st = absurd kind
        kinds (named d) kind t s st = (named d, (t, s, st, tt))

    of_number : Escaped IsUchar text rest c → (p : Piece) × ((text ≡ piece_text p ++ rest) × (is_scalar c ≡ true) × StandsFor p c × IsStringPiece p c)
    of_number e = kinds e.piece e.kind e.text_is e.scalar e.stands
      where
        kinds : (q : Piece) → IsUchar q → text ≡ piece_text q ++ rest → is_scalar c ≡ true → StandsFor q c
            → (p : Piece) × ((text ≡ piece_text p ++ rest) × (is_scalar c ≡ true) × StandsFor p c × IsStringPiece p c)
        kinds (plain d) kind t s st = absurd kind
        kinds (named d) kind t s st = absurd kind
        kinds (short ds) kind t s st = (short ds, (t, s, st, tt))
        kinds (long ds) kind t s st = (long ds, (t, s, st, tt))

    by : (o : Option (ℕ × List ℕ)) → echar text ≡ o → option_or o (uchar text) ≡ found_as c rest
        → (p : Piece) × ((text ≡ piece_text p ++ rest) × (is_scalar c ≡ true) × StandsFor p c × IsStringPiece p c)
    by None read is = of_number (uchar_found text rest c is)
    by (Some x) read is = of_name (echar_found text rest c (read ∙ is))

string_finds : (p : Piece) (c : ℕ) (rest : List ℕ) → IsEscape p → is_scalar c ≡ true → StandsFor p c → IsStringPiece p c
    → string_escape (piece_text p ++ rest) ≡ found_as c rest
unfolding string_escape echar uchar
string_finds (plain d) c rest kind scalar stands may = absurd kind
string_finds (named d) c rest kind scalar stands may = rw (echar_finds d c rest stands) refl
string_finds (short ds) c rest kind scalar stands may = uchar_finds (short ds) c rest tt scalar stands
string_finds (long ds) c rest kind scalar stands may = uchar_finds (long ds) c rest tt scalar stands

string_none : (c : ℕ) (rest : List ℕ) → c ≢ 92 → string_escape (c ∷ rest) ≡ None
unfolding string_escape
string_none c rest other = rw (echar_none c rest other, uchar_none c rest other) refl

pub string_spells : Spells is_string_character string_escape IsStringPiece
string_spells = record {
  wide = string_wide;
  may_from = λ c h. h;
  may_to = λ c h. h;
  bar = string_bar;
  found = string_found;
  finds = string_finds;
  none = string_none;
}
