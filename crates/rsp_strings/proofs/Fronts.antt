-- The bytes of the first characters of a text, and of those behind them.
use Rattle.std.proofs.Common.{◌≡◌, ℕ, zero, suc, ◌+◌, ◌-◌, ◌<◌, Bool, true, false, List, [], ◌∷◌, ◌++◌, length, take, drop, refl, sym, ap, ◌∙◌, arith, IsUtf8, chars, length-append}
use Rattle.std.specs.Prelude.{◌&&◌}
use Rattle.std.specs.List.{slice_range}
use Rattle.std.specs.Str.{all_scalars, encode_utf8_all, IsCharBoundary}
use Rattle.std.proofs.lemmas.Grind.{common_steps}
use Rattle.std.proofs.lemmas.Str.{chars-encodes, encodes-append, IsCharBoundary-at_seam, encodes-chars, scalars-chars, chars_past_char, length-encode}
use Rattle.std.specs.Char.{encode_utf8, len_utf8}

and_left : (a b : Bool) → (a && b) ≡ true → a ≡ true
and_left true b h = refl
and_left false b h = h

and_right : (a b : Bool) → (a && b) ≡ true → b ≡ true
and_right true b h = h
and_right false b h = cc

scalars-drop : (n : ℕ) (cs : List ℕ) → all_scalars cs ≡ true → all_scalars (drop n cs) ≡ true
scalars-drop zero cs h = h
scalars-drop (suc n) [] h = refl
scalars-drop (suc n) (c ∷ cs) h = scalars-drop n cs (and_right _ (all_scalars cs) h)

scalars-take : (n : ℕ) (cs : List ℕ) → all_scalars cs ≡ true → all_scalars (take n cs) ≡ true
scalars-take zero cs h = refl
scalars-take (suc n) [] h = refl
scalars-take (suc n) (c ∷ cs) h = rw (and_left _ (all_scalars cs) h)
    (scalars-take n cs (and_right _ (all_scalars cs) h))

take_front : (xs ys : List ℕ) → take (length xs) (xs ++ ys) ≡ xs
take_front [] ys = refl
take_front (x ∷ xs) ys = ap (λ zs. x ∷ zs) (take_front xs ys)

drop_front : (xs ys : List ℕ) → drop (length xs) (xs ++ ys) ≡ ys
drop_front [] ys = refl
drop_front (x ∷ xs) ys = drop_front xs ys

abbrev pub front_bytes : ℕ → List ℕ → List ℕ
front_bytes n text = encode_utf8_all (take n (chars text))

abbrev pub rest_bytes : ℕ → List ℕ → List ℕ
rest_bytes n text = encode_utf8_all (drop n (chars text))

pub parted : (n : ℕ) (text : List ℕ) → IsUtf8 text → text ≡ front_bytes n text ++ rest_bytes n text
parted n text whole =
    let cs = chars text in
    let both : cs ≡ take n cs ++ drop n cs = grind (arith, common_steps) in
    sym (encodes-chars text whole) ∙ ap encode_utf8_all both ∙ encodes-append (take n cs) (drop n cs)

pub front_boundary : (n : ℕ) (text : List ℕ) → IsUtf8 text → IsCharBoundary text (length (front_bytes n text))
front_boundary n text whole =
    IsCharBoundary-at_seam text (front_bytes n text) (rest_bytes n text) (parted n text whole)
    (drop n (chars text), (scalars-drop n (chars text) (scalars-chars text whole), refl))

pub take_bytes : (n : ℕ) (text : List ℕ) → IsUtf8 text → take (length (front_bytes n text)) text ≡ front_bytes n text
take_bytes n text whole =
    ap (take (length (front_bytes n text))) (parted n text whole) ∙ take_front (front_bytes n text) (rest_bytes n text)

pub drop_bytes : (n : ℕ) (text : List ℕ) → IsUtf8 text → drop (length (front_bytes n text)) text ≡ rest_bytes n text
drop_bytes n text whole =
    ap (drop (length (front_bytes n text))) (parted n text whole) ∙ drop_front (front_bytes n text) (rest_bytes n text)

pub chars_front : (n : ℕ) (text : List ℕ) → IsUtf8 text → chars (front_bytes n text) ≡ take n (chars text)
chars_front n text whole = chars-encodes (take n (chars text)) (scalars-take n (chars text) (scalars-chars text whole))

pub front_more : (text rest : List ℕ) (c left : ℕ) → IsUtf8 text → text ≡ encode_utf8 c ++ rest → 0 < left
    → length (front_bytes left text) ≡ len_utf8 c + length (front_bytes (left - 1) rest)
front_more text rest c zero whole parts some = absurd (omega arith)
front_more text rest c (suc left) whole parts some =
    let less : suc left - 1 ≡ left = omega arith in
    rw (chars_past_char text rest c whole parts, less)
    (length-append (encode_utf8 c) (front_bytes left rest)
    ∙ ap (λ n. n + length (front_bytes left rest)) (length-encode c))

-- of no character
pub front_ended : (len left total : ℕ) (text : List ℕ) → left ≡ 0 → len + length (front_bytes left text) ≡ total
    → len ≡ total
front_ended len zero total text none is = omega arith
front_ended len (suc left) total text none is = absurd (omega arith)

pub range_front : (n : ℕ) (text : List ℕ) → slice_range text 0 n ≡ take n text
range_front n text = let same : n - 0 ≡ n = omega arith in ap (λ m. take m text) same
