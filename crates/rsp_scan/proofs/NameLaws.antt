-- Labels and tags: what the readers give is the longest that stands there.
use Rattle.std.proofs.Common.{◌≡◌, ℕ, zero, suc, ◌-◌, ◌<◌, ◌≤◌, Bool, true, false, true≢false, List, [], ◌∷◌, ◌++◌, length, take, drop, refl, sym, ap, subst, ◌∙◌, arith, append_assoc, length-append, Option, Some, None, IsUtf8, chars, if◌then◌else◌}
use Rattle.std.specs.Prelude.{◌==◌}
use Rattle.std.specs.Char.{encode_utf8}
use Rattle.std.specs.Option.{option_and_then}
use Rattle.std.specs.Str.{is_utf8, all_scalars, encode_utf8_all}
use Rattle.std.specs.Str.Lossy.{utf8_valid_len, valid_len_up_to}
use Rattle.std.proofs.lemmas.Bool.Decides.{nat_tests}
use Rattle.std.proofs.lemmas.List.{take-append-drop}
use Rattle.std.proofs.lemmas.Str.{is_utf8-from_IsUtf8, IsUtf8-from_is_utf8, IsUtf8-nil, length-encode, len_utf8_bounds, encodes-append, chars-encodes, cons_from_encodes}
use Rattle.std.proofs.lemmas.Bool.{and_from}
use Rattle.rsp_spec.proofs.Truths.{and_left, and_right, equal_from, differs}
use Rattle.rsp_terms.specs.Characters.{is_label_text, is_tag_text}
use Rattle.rsp_scan.specs.Fronts.{longest_front, longest_up_to}
use Rattle.rsp_scan.specs.Enclosed.{sign}
use Rattle.rsp_scan.specs.Readers.{label, longest_label, some_of, behind, tag}
use Rattle.rsp_scan.specs.Names.{IsLabel, IsTag}
use Rattle.rsp_scan.proofs.Fronts.{take_front, drop_front, scalars-take, scalars-drop, parted}
use Rattle.rsp_scan.proofs.Pieces.{both_of, pair_same}
use Rattle.rsp_scan.proofs.RuleLaws.{sign_found, sign_finds, front_longest, no_longer, longest_given, length_take, take_past}
use Rattle.rsp_scan.specs.Following.{Reads}

-- ---- a front that is there

record IsThere (front inner rest value : List ℕ) : Type 0 where
  some : 0 < length front
  value_is : value ≡ front
  rest_is : rest ≡ drop (length front) inner

there : (front inner rest value : List ℕ) → some_of front inner ≡ both_of value rest → IsThere front inner rest value
there front inner rest value is = by (length front == 0) refl is
  where
    by : (b : Bool) → (length front == 0) ≡ b → (if b then None else both_of front (behind front inner)) ≡ both_of value rest
        → IsThere front inner rest value
    by true none is = absurd (cc)
    by false some is =
        let same = pair_same front value (behind front inner) rest is in
        record { some = grind (arith, nat_tests); value_is = sym same.0; rest_is = sym same.1 }

is_there : (front rest : List ℕ) → 0 < length front → some_of front (front ++ rest) ≡ both_of front rest
is_there front rest some = rw (differs (length front) 0 (omega arith), drop_front front rest) refl

-- ---- tags

tag_sound : (text rest value : List ℕ) → tag text ≡ both_of value rest → (part : List ℕ) × ((text ≡ part ++ rest) × IsTag part rest value)
unfolding tag
tag_sound text rest value is = by (sign 64 text) refl is
  where
    by : (o : Option (List ℕ)) → sign 64 text ≡ o → option_and_then (λ inner. some_of (longest_front is_tag_text inner) inner) o ≡ both_of value rest
        → (part : List ℕ) × ((text ≡ part ++ rest) × IsTag part rest value)
    by None open_is is = absurd (cc)
    by (Some inner) open_is is =
        let t = there (longest_front is_tag_text inner) inner rest value is in
        let h = front_longest is_tag_text inner in
        let size = length_take (longest_up_to (length inner) is_tag_text inner) inner h.within in
        let some = t.some in
        let whole : inner ≡ longest_front is_tag_text inner ++ rest
        = sym (take-append-drop (longest_up_to (length inner) is_tag_text inner) inner)
        ∙ (ap (λ n. longest_front is_tag_text inner ++ drop n inner) (sym size) ∙ ap (λ ys. longest_front is_tag_text inner ++ ys) (sym t.rest_is)) in (
          64 ∷ longest_front is_tag_text inner,
          (
            sign_found 64 text inner open_is ∙ ap (λ ys. 64 ∷ ys) whole,
            rw t.value_is
                record {
                  is_tag = h.passes (omega arith);
                  part_is = refl;
                  longest = λ more others rest_is passes.
                      no_longer is_tag_text inner more others
                      (whole ∙ (ap (λ ys. longest_front is_tag_text inner ++ ys) rest_is
                      ∙ sym (append_assoc (longest_front is_tag_text inner) more others)))
                      passes;
                },
          ),
        )

some_tag : (language : List ℕ) → is_tag_text language ≡ true → 0 < length language
some_tag [] is = absurd (true≢false (sym is))
some_tag (c ∷ cs) is = omega arith

tag_full : (part rest value : List ℕ) → IsTag part rest value → tag (part ++ rest) ≡ both_of value rest
unfolding tag
tag_full part rest value t =
    let front = longest_given is_tag_text value rest t.is_tag t.longest in
    rw (ap (λ ys. ys ++ rest) t.part_is, sign_finds 64 (value ++ rest), front) (is_there value rest (some_tag value t.is_tag))

pub tag_reads : Reads tag IsTag
tag_reads = record { sound = tag_sound; full = tag_full }

-- ---- the characters before the first byte that isn't UTF-8

valid_is_utf8 : (bs : List ℕ) (n : ℕ) → IsUtf8 (take (valid_len_up_to bs n) bs)
valid_is_utf8 bs zero = IsUtf8-nil
valid_is_utf8 bs (suc n) = by (is_utf8 (take (suc n) bs)) refl (valid_is_utf8 bs n)
  where
    by : (b : Bool) → is_utf8 (take (suc n) bs) ≡ b → IsUtf8 (take (valid_len_up_to bs n) bs)
        → IsUtf8 (take (if b then suc n else valid_len_up_to bs n) bs)
    by true is more = IsUtf8-from_is_utf8 (take (suc n) bs) is
    by false is more = more

valid_most : (bs : List ℕ) (k n : ℕ) → is_utf8 (take k bs) ≡ true → k ≤ n → k ≤ valid_len_up_to bs n
valid_most bs k zero is within = within
valid_most bs k (suc n) is within = by (is_utf8 (take (suc n) bs)) refl (λ less. valid_most bs k n is less)
  where
    by : (b : Bool) → is_utf8 (take (suc n) bs) ≡ b → (k ≤ n → k ≤ valid_len_up_to bs n) → k ≤ (if b then suc n else valid_len_up_to bs n)
    by true top more = within
    by false top more = by_last (k == suc n) refl
      where
        by_last : (b : Bool) → (k == suc n) ≡ b → k ≤ valid_len_up_to bs n
        by_last true same = absurd (true≢false (sym is ∙ (ap (λ i. is_utf8 (take i bs)) (equal_from k (suc n) same) ∙ top)))
        by_last false other = more (grind (arith, nat_tests))

abbrev front_characters : List ℕ → List ℕ
front_characters inner = chars (take (utf8_valid_len inner) inner)

record Characters (inner : List ℕ) : Type 0 where
  cs : List ℕ
  scalars : all_scalars cs ≡ true
  is : front_characters inner ≡ cs
  others : List ℕ
  inner_is : inner ≡ encode_utf8_all cs ++ others

characters_of : (inner : List ℕ) → Characters inner
unfolding utf8_valid_len
characters_of inner =
    let valid = valid_is_utf8 inner (length inner) in record {
      cs = valid.0;
      scalars = valid.1.0;
      is = ap chars (sym valid.1.1) ∙ chars-encodes valid.0 valid.1.0;
      others = drop (valid_len_up_to inner (length inner)) inner;
      inner_is =
          sym (take-append-drop (valid_len_up_to inner (length inner)) inner)
          ∙ ap (λ ys. ys ++ drop (valid_len_up_to inner (length inner)) inner) (sym valid.1.1);
    }

-- characters that a text begins with come first among these
pub begins : (ps cs others : List ℕ) → encode_utf8_all cs ≡ encode_utf8_all ps ++ others
    → (es : List ℕ) × ((cs ≡ ps ++ es) × (encode_utf8_all es ≡ others))
begins [] cs others is = (cs, (refl, is))
begins (p ∷ ps) cs others is =
    let first = cons_from_encodes cs (encode_utf8_all ps ++ others) p (is ∙ append_assoc (encode_utf8 p) (encode_utf8_all ps) others) in
    let more = begins ps first.0 others first.2 in
    (more.0, (first.1 ∙ ap (λ ys. p ∷ ys) more.1.0, more.1.1))

record Begun (ps inner others : List ℕ) : Type 0 where
  es : List ℕ
  scalars : all_scalars es ≡ true
  is : front_characters inner ≡ ps ++ es
  last : List ℕ
  others_is : others ≡ encode_utf8_all es ++ last

scalars-behind : (ps es : List ℕ) → all_scalars (ps ++ es) ≡ true → all_scalars es ≡ true
scalars-behind ps es h = ap all_scalars (sym (drop_front ps es)) ∙ scalars-drop (length ps) (ps ++ es) h

begun : (ps inner others : List ℕ) → all_scalars ps ≡ true → inner ≡ encode_utf8_all ps ++ others → Begun ps inner others
unfolding utf8_valid_len
begun ps inner others scalars is =
    let p = encode_utf8_all ps in
    let m = valid_len_up_to inner (length inner) in
    let valid = valid_is_utf8 inner (length inner) in
    let front : take (length (encode_utf8_all ps)) inner ≡ encode_utf8_all ps
    = ap (take (length (encode_utf8_all ps))) is ∙ take_front (encode_utf8_all ps) others in
    let whole : is_utf8 (take (length (encode_utf8_all ps)) inner) ≡ true
    = ap is_utf8 front ∙ is_utf8-from_IsUtf8 (encode_utf8_all ps) (ps, (scalars, refl)) in
    let size = ap length is ∙ length-append (encode_utf8_all ps) others in
    let most = valid_most inner (length (encode_utf8_all ps)) (length inner) whole (omega arith) in
    let taken : encode_utf8_all valid.0 ≡ encode_utf8_all ps ++ take (valid_len_up_to inner (length inner) - length (encode_utf8_all ps)) others
    = valid.1.1 ∙ (ap (take (valid_len_up_to inner (length inner))) is ∙ take_past (encode_utf8_all ps) others (valid_len_up_to inner (length inner)) most) in
    let parts = begins ps valid.0 (take (valid_len_up_to inner (length inner) - length (encode_utf8_all ps)) others) taken in
    record {
      es = parts.0;
      scalars = scalars-behind ps parts.0 (ap all_scalars (sym parts.1.0) ∙ valid.1.0);
      is = ap chars (sym valid.1.1) ∙ (chars-encodes valid.0 valid.1.0 ∙ parts.1.0);
      last = drop (valid_len_up_to inner (length inner) - length (encode_utf8_all ps)) others;
      others_is =
          sym (take-append-drop (valid_len_up_to inner (length inner) - length (encode_utf8_all ps)) others)
          ∙ ap (λ ys. ys ++ drop (valid_len_up_to inner (length inner) - length (encode_utf8_all ps)) others) (sym parts.1.1);
    }

-- ---- labels

some_bytes : (c : ℕ) (cs : List ℕ) → 0 < length (encode_utf8_all (c ∷ cs))
some_bytes c cs =
    let all = length-append (encode_utf8 c) (encode_utf8_all cs) in
    let size = length-encode c in
    let some = (len_utf8_bounds c).0 in
    omega arith

some_characters : (cs : List ℕ) → 0 < length (encode_utf8_all cs) → 0 < length cs
some_characters [] some = some
some_characters (c ∷ cs) some = omega arith

scalars-front : (ps es : List ℕ) → all_scalars (ps ++ es) ≡ true → all_scalars ps ≡ true
scalars-front ps es h = ap all_scalars (sym (take_front ps es)) ∙ scalars-take (length ps) (ps ++ es) h

scalars-join : (xs ys : List ℕ) → all_scalars xs ≡ true → all_scalars ys ≡ true → all_scalars (xs ++ ys) ≡ true
scalars-join [] ys hx hy = hy
scalars-join (x ∷ xs) ys hx hy =
    and_from _ _ (and_left _ (all_scalars xs) hx) (scalars-join xs ys (and_right _ (all_scalars xs) hx) hy)

label_from : (inner rest value : List ℕ) → IsThere (longest_label inner) inner rest value → (part : List ℕ) × (((95 ∷ 58 ∷ inner) ≡ part ++ rest) × IsLabel part rest value)
label_from inner rest value t =
    let c = characters_of inner in
    let h = front_longest is_label_text c.cs in
    let label_is : longest_label inner ≡ encode_utf8_all (longest_front is_label_text c.cs)
    = ap (λ xs. encode_utf8_all (longest_front is_label_text xs)) c.is in
    let n = longest_up_to (length c.cs) is_label_text c.cs in
    let split : inner ≡ encode_utf8_all (longest_front is_label_text c.cs) ++ (encode_utf8_all (drop n c.cs) ++ c.others)
    = c.inner_is ∙ (ap (λ ys. ys ++ c.others) (parted n c.cs)
    ∙ append_assoc (encode_utf8_all (longest_front is_label_text c.cs)) (encode_utf8_all (drop n c.cs)) c.others) in
    let rest_is : rest ≡ encode_utf8_all (drop n c.cs) ++ c.others
    = t.rest_is ∙ (ap (λ ys. drop (length ys) inner) label_is
    ∙ (ap (drop (length (encode_utf8_all (longest_front is_label_text c.cs)))) split
    ∙ drop_front (encode_utf8_all (longest_front is_label_text c.cs)) (encode_utf8_all (drop n c.cs) ++ c.others))) in
    let whole : inner ≡ value ++ rest
    = split ∙ rw (t.value_is, label_is, rest_is) refl in
    let some : 0 < length (longest_front is_label_text c.cs)
    = some_characters (longest_front is_label_text c.cs) (subst (λ ys. 0 < length ys) label_is t.some) in
    let size = length_take n c.cs h.within in
    let scalars = scalars-take n c.cs c.scalars in (
      95 ∷ 58 ∷ value,
      (
        ap (λ ys. 95 ∷ 58 ∷ ys) whole,
        record {
          characters = longest_front is_label_text c.cs;
          scalars = scalars-take n c.cs c.scalars;
          passes = h.passes (omega arith);
          label_is = t.value_is ∙ label_is;
          part_is = refl;
          longest = λ more others more_scalars more_is passes.
              let all : inner ≡ encode_utf8_all (longest_front is_label_text c.cs ++ more) ++ others
              = whole ∙ (ap (λ ys. ys ++ rest) (t.value_is ∙ label_is)
              ∙ (ap (λ ys. encode_utf8_all (longest_front is_label_text c.cs) ++ ys) more_is
              ∙ (sym (append_assoc (encode_utf8_all (longest_front is_label_text c.cs)) (encode_utf8_all more) others)
              ∙ ap (λ ys. ys ++ others) (sym (encodes-append (longest_front is_label_text c.cs) more))))) in
              let b = begun (longest_front is_label_text c.cs ++ more) inner others
              (scalars-join (longest_front is_label_text c.cs) more scalars more_scalars) all in
              no_longer is_label_text c.cs more b.es (sym c.is ∙ b.is) passes;
        },
      ),
    )

label_sound : (text rest value : List ℕ) → label text ≡ both_of value rest → (part : List ℕ) × ((text ≡ part ++ rest) × IsLabel part rest value)
unfolding label
label_sound text rest value is = by_first (sign 95 text) refl is
  where
    Goal : Type 0
    Goal = (part : List ℕ) × ((text ≡ part ++ rest) × IsLabel part rest value)

    by_second : (behind_it : List ℕ) → sign 95 text ≡ Some behind_it → (o : Option (List ℕ)) → sign 58 behind_it ≡ o
        → option_and_then (λ inner. some_of (longest_label inner) inner) o ≡ both_of value rest → Goal
    by_second behind_it first None second is = absurd (cc)
    by_second behind_it first (Some inner) second is =
        let all = label_from inner rest value (there (longest_label inner) inner rest value is) in
        let start = sign_found 95 text behind_it first ∙ ap (λ ys. 95 ∷ ys) (sign_found 58 behind_it inner second) in
        (all.0, (start ∙ all.1.0, all.1.1))

    by_first : (o : Option (List ℕ)) → sign 95 text ≡ o
        → option_and_then (λ inner. some_of (longest_label inner) inner) (option_and_then (sign 58) o) ≡ both_of value rest → Goal
    by_first None first is = absurd (cc)
    by_first (Some behind_it) first is = by_second behind_it first (sign 58 behind_it) refl is

some_label : (cs : List ℕ) → is_label_text cs ≡ true → 0 < length (encode_utf8_all cs)
some_label [] is = absurd (true≢false (sym is))
some_label (c ∷ cs) is = some_bytes c cs

label_full : (part rest value : List ℕ) → IsLabel part rest value → label (part ++ rest) ≡ both_of value rest
unfolding label
label_full part rest value t =
    let start : part ++ rest ≡ 95 ∷ 58 ∷ (value ++ rest) = ap (λ ys. ys ++ rest) t.part_is in
    let split : value ++ rest ≡ encode_utf8_all t.characters ++ rest = ap (λ ys. ys ++ rest) t.label_is in
    let b = begun t.characters (value ++ rest) rest t.scalars split in
    let front : longest_front is_label_text (t.characters ++ b.es) ≡ t.characters
    = longest_given is_label_text t.characters b.es t.passes
    (λ more others es_is passes.
    t.longest more (encode_utf8_all others ++ b.last)
    (scalars-front more others (ap all_scalars (sym es_is) ∙ b.scalars))
    (b.others_is ∙ (ap (λ xs. encode_utf8_all xs ++ b.last) es_is
    ∙ (ap (λ ys. ys ++ b.last) (encodes-append more others) ∙ append_assoc (encode_utf8_all more) (encode_utf8_all others) b.last)))
    passes) in
    let label_is : longest_label (value ++ rest) ≡ value
    = ap (λ xs. encode_utf8_all (longest_front is_label_text xs)) b.is ∙ (ap encode_utf8_all front ∙ sym t.label_is) in
    let some : 0 < length value = subst (λ ys. 0 < length ys) (sym t.label_is) (some_label t.characters t.passes) in
    rw (start, sign_finds 95 (58 ∷ (value ++ rest)), sign_finds 58 (value ++ rest), label_is) (is_there value rest some)

pub label_reads : Reads label IsLabel
label_reads = record { sound = label_sound; full = label_full }
