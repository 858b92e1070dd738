-- A front of the characters of a text is a front of its bytes.
use Rattle.std.proofs.Common.{◌≡◌, ℕ, zero, suc, ◌+◌, ◌-◌, ◌*◌, ◌^◌, ◌<◌, ◌≤◌, Bool, true, false, true≢false, List, [], ◌∷◌, ◌++◌, length, take, drop, refl, sym, ap, ◌∙◌, arith, Option, Some, None, IsUtf8, chars}
use Rattle.std.specs.Prelude.{◌==◌, nat_lt}
use Rattle.std.specs.Char.{is_ascii_alphabetic, is_ascii_digit}
use Rattle.std.specs.List.{slice_range}
use Rattle.std.specs.Str.{all_scalars, encode_utf8_all, IsCharBoundary, IsAscii}
use Rattle.std.proofs.lemmas.Bool.Decides.{nat_tests}
use Rattle.std.proofs.lemmas.Grind.{common_steps}
use Rattle.std.proofs.lemmas.Str.{chars-encodes, encodes-append, IsCharBoundary-at_seam, IsUtf8-from_ascii, IsUtf8-nil}
use Rattle.std.proofs.Math.Nat.{pow-le-pow_right}
use Rattle.rsp_spec.proofs.Truths.{and_left, and_right}
use Rattle.rsp_scan.specs.Fronts.{longest_front, longest_up_to}
use Rattle.rsp_scan.specs.Machines.{accepts}
use Rattle.rsp_scan.specs.Scans.{scan, next_of_tag, tag_machine}
use Rattle.rsp_scan.proofs.Longest.{scan_is}

pub scalars-drop : (n : ℕ) (cs : List ℕ) → all_scalars cs ≡ true → all_scalars (drop n cs) ≡ true
scalars-drop zero cs h = h
scalars-drop (suc n) [] h = refl
scalars-drop (suc n) (c ∷ cs) h = scalars-drop n cs (and_right _ (all_scalars cs) h)

pub scalars-take : (n : ℕ) (cs : List ℕ) → all_scalars cs ≡ true → all_scalars (take n cs) ≡ true
scalars-take zero cs h = refl
scalars-take (suc n) [] h = refl
scalars-take (suc n) (c ∷ cs) h = rw (and_left _ (all_scalars cs) h) (scalars-take n cs (and_right _ (all_scalars cs) h))

pub parted : (n : ℕ) (cs : List ℕ) → encode_utf8_all cs ≡ encode_utf8_all (take n cs) ++ encode_utf8_all (drop n cs)
parted n cs =
    let both : cs ≡ take n cs ++ drop n cs = grind (arith, common_steps) in
    ap encode_utf8_all both ∙ encodes-append (take n cs) (drop n cs)

pub take_front : (xs ys : List ℕ) → take (length xs) (xs ++ ys) ≡ xs
take_front [] ys = refl
take_front (x ∷ xs) ys = ap (λ zs. x ∷ zs) (take_front xs ys)

pub drop_front : (xs ys : List ℕ) → drop (length xs) (xs ++ ys) ≡ ys
drop_front [] ys = refl
drop_front (x ∷ xs) ys = drop_front xs ys

pub record IsFront (front text : List ℕ) : Type 0 where
  pub within : length front ≤ length text
  pub boundary : IsCharBoundary text (length front)
  pub is : take (length front) text ≡ front

front_at : (n : ℕ) (cs text : List ℕ) → all_scalars cs ≡ true → encode_utf8_all cs ≡ text → IsFront (encode_utf8_all (take n cs)) text
front_at n cs text scalars is =
    let both : text ≡ encode_utf8_all (take n cs) ++ encode_utf8_all (drop n cs) = sym is ∙ parted n cs in
    let boundary = IsCharBoundary-at_seam text (encode_utf8_all (take n cs)) (encode_utf8_all (drop n cs)) both (drop n cs, (scalars-drop n cs scalars, refl)) in
    record {
      within = boundary.0;
      boundary = boundary;
      is = ap (take (length (encode_utf8_all (take n cs)))) both ∙ take_front (encode_utf8_all (take n cs)) (encode_utf8_all (drop n cs));
    }

pub front_n : (n : ℕ) (text : List ℕ) → IsUtf8 text → IsFront (encode_utf8_all (take n (chars text))) text
front_n n text whole =
    let cs = whole.0 in
    let is : chars text ≡ cs = ap chars (sym whole.1.1) ∙ chars-encodes cs whole.1.0 in
    rw is (front_at n cs text whole.1.0 whole.1.1)

pub front_of : (test : List ℕ → Bool) (text : List ℕ) → IsUtf8 text → IsFront (encode_utf8_all (longest_front test (chars text))) text
front_of test text whole =
    let cs = whole.0 in
    let is : chars text ≡ cs = ap chars (sym whole.1.1) ∙ chars-encodes cs whole.1.0 in
    rw is (front_at (longest_up_to (length cs) test cs) cs text whole.1.0 whole.1.1)

-- ---- tags are ASCII

no_step : (first begun : Bool) (c : ℕ) → 128 ≤ c → next_of_tag (first, begun) c ≡ None
no_step true begun c high =
    let hyphen : (c == 0x2D) ≡ false = grind (arith, nat_tests) in
    let letter : is_ascii_alphabetic c ≡ false = grind (arith, nat_tests) in
    rw (hyphen, letter) refl
no_step false begun c high =
    let hyphen : (c == 0x2D) ≡ false = grind (arith, nat_tests) in
    let letter : is_ascii_alphabetic c ≡ false = grind (arith, nat_tests) in
    let digit : is_ascii_digit c ≡ false = grind (arith, nat_tests) in
    rw (hyphen, letter, digit) refl

read_on : (s : Bool × Bool) (c : ℕ) (cs : List ℕ) (o : Option (Bool × Bool)) → next_of_tag s c ≡ o → accepts tag_machine s (c ∷ cs) ≡ true
    → ((t : Bool × Bool) → accepts tag_machine t cs ≡ true → IsAscii cs) → IsAscii cs
read_on s c cs None is h more = absurd (true≢false (sym h ∙ rw is refl))
read_on s c cs (Some t) is h more = more t (rw is at h)

first_ascii : (first begun low : Bool) (c : ℕ) (cs : List ℕ) → nat_lt c 128 ≡ low → accepts tag_machine (first, begun) (c ∷ cs) ≡ true → c < 128
first_ascii first begun true c cs is h = grind (arith, nat_tests)
first_ascii first begun false c cs is h =
    let high : 128 ≤ c = grind (arith, nat_tests) in
    absurd (true≢false (sym h ∙ rw (no_step first begun c high) refl))

accepted_ascii : (s : Bool × Bool) (cs : List ℕ) → accepts tag_machine s cs ≡ true → IsAscii cs
accepted_ascii s [] h i = omega arith
accepted_ascii s (c ∷ cs) h zero = first_ascii s.0 s.1 (nat_lt c 128) c cs refl h
accepted_ascii s (c ∷ cs) h (suc i) = read_on s c cs (next_of_tag s c) refl h (λ t. accepted_ascii t cs) i

tag_utf8_by : (n : ℕ) (text : List ℕ) → (0 < n → accepts tag_machine (true, false) (take n text) ≡ true) → IsUtf8 (take n text)
tag_utf8_by zero text passes = IsUtf8-nil
tag_utf8_by (suc n) text passes = IsUtf8-from_ascii _ (accepted_ascii (true, false) (take (suc n) text) (passes (omega arith)))

pub tag_utf8 : (text : List ℕ) → IsUtf8 (take (scan tag_machine (true, false) text) text)
tag_utf8 text = tag_utf8_by (scan tag_machine (true, false) text) text (scan_is tag_machine (true, false) text).passes

pub digit_fits : (n i : ℕ) → n < 16 ^ i → i < 8 → 16 * n + 16 ≤ 16 ^ 8
digit_fits n i small within =
    let most : 16 ^ suc i ≤ 16 ^ 8 = pow-le-pow_right {n = 16} (omega arith) {i = suc i} {j = 8} (omega arith) in
    let next : 16 ^ suc i ≡ 16 * 16 ^ i = grind arith in
    omega arith

pub range_front : (n : ℕ) (front text : List ℕ) → n ≡ length front → IsFront front text → slice_range text 0 n ≡ front
range_front n front text is front_is =
    let all : n - 0 ≡ length front = omega arith in
    rw all (front_is.is)
