-- A scheme is ASCII: bytes tell whether a text begins with one as characters do.
use Rattle.std.proofs.Common.{◌≡◌, ℕ, ◌+◌, ◌/◌, ◌%◌, ◌≤◌, ◌<◌, Bool, true, false, List, [], ◌∷◌, ◌++◌, refl, sym, ap, ◌∙◌, arith, IsUtf8, chars}
use Rattle.std.specs.Prelude.{◌==◌, nat_lt}
use Rattle.std.specs.Char.{encode_utf8, is_ascii_alphabetic}
use Rattle.std.specs.Str.{encode_utf8_all}
use Rattle.std.proofs.lemmas.Bool.Decides.{nat_tests}
use Rattle.std.proofs.lemmas.Str.{encode_ascii, encodes-chars}
use Rattle.rsp_terms.specs.Characters.{is_scheme_character, goes_on_to_colon, is_absolute}

-- the first byte of a character that isn't ASCII
record Wide (c : ℕ) : Type 0 where
  first : ℕ
  others : List ℕ
  is : encode_utf8 c ≡ first ∷ others
  high : 128 ≤ first

wide : (c : ℕ) → 128 ≤ c → Wide c
unfolding encode_utf8
wide c high = by (nat_lt c 2048) (nat_lt c 65536) refl refl
  where
    ascii : nat_lt c 128 ≡ false
    ascii = grind (arith, nat_tests)

    by : (two three : Bool) → nat_lt c 2048 ≡ two → nat_lt c 65536 ≡ three → Wide c
    by true three a b = record { first = 192 + c / 64; others = (128 + c % 64) ∷ []; is = rw (ascii, a) refl; high = omega arith }
    by false true a b = record { first = 224 + c / 4096; others = (128 + c / 64 % 64) ∷ (128 + c % 64) ∷ []; is = rw (ascii, a, b) refl; high = omega arith }
    by false false a b = record { first = 240 + c / 262144; others = (128 + c / 4096 % 64) ∷ (128 + c / 64 % 64) ∷ (128 + c % 64) ∷ []; is = rw (ascii, a, b) refl; high = omega arith }

no_colon : (c : ℕ) → 128 ≤ c → (c == 0x3A) ≡ false
no_colon c high = grind (arith, nat_tests)

no_letter : (c : ℕ) → 128 ≤ c → is_ascii_alphabetic c ≡ false
no_letter c high = grind (arith, nat_tests)

no_scheme : (c : ℕ) → 128 ≤ c → is_scheme_character c ≡ false
no_scheme c high = grind (arith, nat_tests)

goes_same : (cs : List ℕ) → goes_on_to_colon (encode_utf8_all cs) ≡ goes_on_to_colon cs
goes_same [] = refl
goes_same (c ∷ cs) = by (nat_lt c 128) refl (goes_same cs)
  where
    by : (b : Bool) → nat_lt c 128 ≡ b → goes_on_to_colon (encode_utf8_all cs) ≡ goes_on_to_colon cs
        → goes_on_to_colon (encode_utf8 c ++ encode_utf8_all cs) ≡ goes_on_to_colon (c ∷ cs)
    by true is more =
        let low : c < 128 = grind (arith, nat_tests) in
        rw (encode_ascii c low, more) refl
    by false is more =
        let high : 128 ≤ c = grind (arith, nat_tests) in
        let w = wide c high in
        rw (w.is, no_colon w.first w.high, no_scheme w.first w.high, no_colon c high, no_scheme c high) refl

scheme_same : (cs : List ℕ) → is_absolute (encode_utf8_all cs) ≡ is_absolute cs
scheme_same [] = refl
scheme_same (c ∷ cs) = by (nat_lt c 128) refl
  where
    by : (b : Bool) → nat_lt c 128 ≡ b → is_absolute (encode_utf8 c ++ encode_utf8_all cs) ≡ is_absolute (c ∷ cs)
    by true is =
        let low : c < 128 = grind (arith, nat_tests) in
        rw (encode_ascii c low, goes_same cs) refl
    by false is =
        let high : 128 ≤ c = grind (arith, nat_tests) in
        let w = wide c high in
        rw (w.is, no_letter w.first w.high, no_letter c high) refl

pub same_scheme : (text : List ℕ) → IsUtf8 text → is_absolute (chars text) ≡ is_absolute text
same_scheme text whole = sym (scheme_same (chars text)) ∙ ap is_absolute (encodes-chars text whole)
