-- White space and comments at the front of a text, in bytes.
use Rattle.std.proofs.Common.{◌≡◌, ℕ, suc, ◌+◌, Bool, false, List, ◌∷◌, ◌++◌, length, refl, Some, None, IsUtf8, chars, take, ap}
use Rattle.std.specs.Char.{encode_utf8, len_utf8}
use Rattle.std.specs.Str.{IsCharBoundary}
use Rattle.std.proofs.lemmas.List.{nil_from_length}
use Rattle.std.proofs.lemmas.Str.{chars-nil, chars_past_char, scalars-chars}
use Rattle.rsp_scan.proofs.Fronts.{front_n, scalars-take}
use Rattle.rsp_scan.proofs.ScannedBytes.{bytes, first_bytes}
use Rattle.std.specs.Str.{encode_utf8_all}
use Rattle.rsp_lex.specs.Tokens.{gap_bytes}
use Rattle.rsp_lex.specs.Gaps.{gap_step, gap_count}
use Rattle.rsp_lex.proofs.GapForms.{gap_front}

unfoldable pub gap_at : Bool → List ℕ → ℕ
gap_at comment text = bytes (gap_count comment (chars text)) (chars text)

pub gap_is : (text : List ℕ) → gap_bytes text ≡ gap_at false text
unfolding gap_bytes gap_at
gap_is text = ap (λ front. length (encode_utf8_all front)) (gap_front (chars text))

pub gap_read : (comment : Bool) (text : List ℕ) → length text ≡ 0 → gap_at comment text ≡ 0
unfolding gap_at
gap_read comment text none = rw (nil_from_length text none, chars-nil) refl

module _ (comment : Bool) (text rest : List ℕ) (c : ℕ) (whole : IsUtf8 text) (parts : text ≡ encode_utf8 c ++ rest) where
  count_more : (next : Bool) → gap_step comment c ≡ Some next → gap_count comment (c ∷ chars rest) ≡ suc (gap_count next (chars rest))
  count_more next is = rw is refl

  count_none : gap_step comment c ≡ None → gap_count comment (c ∷ chars rest) ≡ 0
  count_none is = rw is refl

  pub gap_goes : (next : Bool) → gap_step comment c ≡ Some next → gap_at comment text ≡ len_utf8 c + gap_at next rest
  unfolding gap_at
  gap_goes next is =
      rw (chars_past_char text rest c whole parts, count_more next is) (first_bytes (gap_count next (chars rest)) c (chars rest))

  pub gap_stops : gap_step comment c ≡ None → gap_at comment text ≡ 0
  unfolding gap_at
  gap_stops is = rw (chars_past_char text rest c whole parts, count_none is) refl

pub gap_boundary : (text : List ℕ) → IsUtf8 text → IsCharBoundary text (gap_bytes text)
unfolding gap_at
gap_boundary text whole = rw (gap_is text) ((front_n (gap_count false (chars text)) text whole).boundary)

pub gap_utf8 : (text : List ℕ) → IsUtf8 text → IsUtf8 (take (gap_bytes text) text)
unfolding gap_at
gap_utf8 text whole =
    rw (gap_is text, (front_n (gap_count false (chars text)) text whole).is)
    (take (gap_count false (chars text)) (chars text), (scalars-take (gap_count false (chars text)) (chars text) (scalars-chars text whole), refl))
