-- Readers and rules: a reader gives what its rule says of the part at the front.
use Rattle.std.proofs.Common.{◌≡◌, ◌≢◌, ℕ, zero, suc, ◌-◌, ◌<◌, ◌≤◌, Bool, true, false, true≢false, List, [], ◌∷◌, ◌++◌, length, take, drop, refl, sym, ap, ◌∙◌, arith, append_assoc, length-append, Option, Some, None, if◌then◌else◌, MatchOption}
use Rattle.std.specs.Prelude.{◌==◌}
use Rattle.std.specs.Char.{encode_utf8}
use Rattle.std.specs.Option.{option_map, option_and_then}
use Rattle.std.proofs.lemmas.Bool.Decides.{nat_tests}
use Rattle.std.proofs.lemmas.Grind.{common_steps}
use Rattle.std.proofs.lemmas.List.{take-append-drop}
use Rattle.std.proofs.lemmas.Str.{length-encode, len_utf8_bounds}
use Rattle.rsp_spec.proofs.Truths.{equal_from}
use Rattle.rsp_scan.specs.Fronts.{longest_front, longest_up_to}
use Rattle.rsp_scan.specs.Readers.{PartReader, spelled, enclosed, iri, string}
use Rattle.rsp_scan.specs.Following.{Reads}
use Rattle.rsp_scan.specs.Enclosed.{Rule, Piece, plain, short, long, named, piece_text, IsEnclosed, IsFront, HasNoFront, HasFront, IsIri, IsString, sign}
use Rattle.rsp_scan.proofs.Fronts.{take_front}
use Rattle.rsp_scan.proofs.Longest.{IsLongest, longest_is}
use Rattle.rsp_scan.proofs.Pieces.{Spells, texts, pieced, pieces_spelled, both_of, pair_same}
use Rattle.rsp_scan.proofs.EscapeLaws.{iri_spells, string_spells}

abbrev found : {A : Type 0} → A → List ℕ → Option (A × List ℕ)
found value rest = Some (value, rest)

-- what a reader gives, in the words of its rule
module _ {A : Type 0} (reader : PartReader A) (rule : Rule A) (h : Reads reader rule) where
  same_reading : (a b : A) (xs ys : List ℕ) → found a xs ≡ found b ys → (a ≡ b) × (xs ≡ ys)
  same_reading a b xs ys is =
      let same : ◌≡◌ {A = A × List ℕ} (a, xs) (b, ys) = cc in
      (ap (λ (y : A × List ℕ). y.0) same, ap (λ (y : A × List ℕ). y.1) same)

  read_at : (text rest : List ℕ) (v : A) → IsFront rule text rest v → reader text ≡ found v rest
  read_at text rest v f = ap reader f.text_is ∙ h.full f.part rest v f.is

  pub no_front : (text : List ℕ) → reader text ≡ None → HasNoFront rule text
  no_front text none rest v f = let read = read_at text rest v f in absurd (cc)

  pub some_front : (text rest : List ℕ) (v : A) → reader text ≡ found v rest → HasFront rule text v rest
  some_front text rest v is =
      let p = h.sound text rest v is in (
        record { part = p.0; text_is = p.1.0; is = p.1.1 },
        λ other another f. same_reading another v other rest (sym (read_at text other another f) ∙ is),
      )

  pub read_by_rule : {X : Type 0} (read : Option X) (value : X → A) (rest : X → List ℕ) (text : List ℕ)
      → MatchOption read (reader text ≡ None) (λ x. reader text ≡ found (value x) (rest x))
      → MatchOption read (HasNoFront rule text) (λ x. HasFront rule text (value x) (rest x))
  read_by_rule None value rest text is = no_front text is
  read_by_rule (Some x) value rest text is = some_front text (rest x) (value x) is

same_sign : (c : ℕ) → (c == c) ≡ true
same_sign c = grind (arith, nat_tests)

pub sign_found : (c : ℕ) (text rest : List ℕ) → sign c text ≡ Some rest → text ≡ c ∷ rest
unfolding sign
sign_found c [] rest is = absurd (cc)
sign_found c (d ∷ text) rest is = by (c == d) refl is
  where
    by : (b : Bool) → (c == d) ≡ b → (if b then Some text else None) ≡ Some rest → (d ∷ text) ≡ c ∷ rest
    by true same is = let rest_is : text ≡ rest = cc in rw (equal_from c d same, rest_is) refl
    by false other is = absurd (cc)

pub sign_finds : (c : ℕ) (rest : List ℕ) → sign c (c ∷ rest) ≡ Some rest
unfolding sign
sign_finds c rest = rw (same_sign c) refl

-- ---- enclosed parts

pieces_within : (pieces : List (Piece × ℕ)) → length pieces ≤ length (texts pieces)
pieces_within [] = omega arith
pieces_within ((plain c, d) ∷ ps) =
    let more = pieces_within ps in
    let all = length-append (encode_utf8 c) (texts ps) in
    let size = length-encode c in
    let some = (len_utf8_bounds c).0 in
    omega arith
pieces_within ((short ds, d) ∷ ps) =
    let more = pieces_within ps in let all = length-append (piece_text (short ds)) (texts ps) in omega arith
pieces_within ((long ds, d) ∷ ps) =
    let more = pieces_within ps in let all = length-append (piece_text (long ds)) (texts ps) in omega arith
pieces_within ((named c, d) ∷ ps) =
    let more = pieces_within ps in let all = length-append (piece_text (named c)) (texts ps) in omega arith

module _ (opening closing : ℕ) (test : ℕ → Bool) (escape : PartReader ℕ) (may : Piece → ℕ → Type 0) (h : Spells test escape may)
    (fails : test closing ≡ false) (other : closing ≢ 92) where
  closed : (inner rest value behind_it : List ℕ) → spelled (suc (length inner)) test escape inner ≡ both_of value behind_it
      → sign closing behind_it ≡ Some rest
      → (part : List ℕ) × (((opening ∷ inner) ≡ part ++ rest) × IsEnclosed may opening closing part value)
  closed inner rest value behind_it read close =
      let p = pieced test escape may h (suc (length inner)) inner behind_it value read in
      let end = sign_found closing behind_it rest close in (
        opening ∷ (texts p.pieces ++ (closing ∷ [])),
        (
          ap (λ ys. opening ∷ ys) (p.text_is ∙ (ap (λ ys. texts p.pieces ++ ys) end ∙ sym (append_assoc (texts p.pieces) (closing ∷ []) rest))),
          record { pieces = p.pieces; each = p.each; part_is = refl; value_is = p.value_is },
        ),
      )

  enclosed_sound : (text rest value : List ℕ) → enclosed opening closing test escape text ≡ both_of value rest
      → (part : List ℕ) × ((text ≡ part ++ rest) × IsEnclosed may opening closing part value)
  unfolding enclosed
  enclosed_sound text rest value is = by_open (sign opening text) refl is
    where
      Goal : Type 0
      Goal = (part : List ℕ) × ((text ≡ part ++ rest) × IsEnclosed may opening closing part value)

      by_close : (inner : List ℕ) → sign opening text ≡ Some inner → (x : List ℕ × List ℕ)
          → spelled (suc (length inner)) test escape inner ≡ Some x → (o : Option (List ℕ)) → sign closing x.1 ≡ o
          → option_map (λ behind_it. (x.0, behind_it)) o ≡ both_of value rest → Goal
      by_close inner open_is x read None close is = absurd (cc)
      by_close inner open_is x read (Some behind_it) close is =
          let same = pair_same x.0 value behind_it rest is in
          let start = sign_found opening text inner open_is in
          let all = closed inner rest value x.1 (read ∙ ap (λ y. Some (y, x.1)) same.0) (close ∙ ap (λ y. Some y) same.1) in
          (all.0, (start ∙ all.1.0, all.1.1))

      by_inner : (inner : List ℕ) → sign opening text ≡ Some inner → (o : Option (List ℕ × List ℕ))
          → spelled (suc (length inner)) test escape inner ≡ o
          → option_and_then (λ x. option_map (λ behind_it. (x.0, behind_it)) (sign closing x.1)) o ≡ both_of value rest → Goal
      by_inner inner open_is None read is = absurd (cc)
      by_inner inner open_is (Some x) read is = by_close inner open_is x read (sign closing x.1) refl is

      by_open : (o : Option (List ℕ)) → sign opening text ≡ o
          → option_and_then (λ inner. option_and_then (λ x. option_map (λ behind_it. (x.0, behind_it)) (sign closing x.1))
          (spelled (suc (length inner)) test escape inner)) o ≡ both_of value rest → Goal
      by_open None open_is is = absurd (cc)
      by_open (Some inner) open_is is = by_inner inner open_is (spelled (suc (length inner)) test escape inner) refl is

  enclosed_full : (part rest value : List ℕ) → IsEnclosed may opening closing part value
      → enclosed opening closing test escape (part ++ rest) ≡ both_of value rest
  unfolding enclosed
  enclosed_full part rest value e =
      let inner : List ℕ = texts e.pieces ++ (closing ∷ rest) in
      let whole : part ++ rest ≡ opening ∷ (texts e.pieces ++ (closing ∷ rest))
      = ap (λ ys. ys ++ rest) e.part_is ∙ ap (λ ys. opening ∷ ys) (append_assoc (texts e.pieces) (closing ∷ []) rest) in
      let size = length-append (texts e.pieces) (closing ∷ rest) in
      let few = pieces_within e.pieces in
      let read = pieces_spelled test escape may h (length (texts e.pieces ++ (closing ∷ rest))) e.pieces closing rest e.each (omega arith) fails other in
      rw (whole, sign_finds opening (texts e.pieces ++ (closing ∷ rest)), read, sign_finds closing rest, e.value_is) refl

pub iri_reads : Reads iri IsIri
unfolding iri
iri_reads = record {
  sound = λ text rest v is. enclosed_sound 60 62 _ _ _ iri_spells refl (omega arith) text rest v is;
  full = λ part rest v e. enclosed_full 60 62 _ _ _ iri_spells refl (omega arith) part rest v e;
}

pub string_reads : Reads string IsString
unfolding string
string_reads = record {
  sound = λ text rest v is. enclosed_sound 34 34 _ _ _ string_spells refl (omega arith) text rest v is;
  full = λ part rest v e. enclosed_full 34 34 _ _ _ string_spells refl (omega arith) part rest v e;
}

-- ---- the longest front

front_step : (b : Bool) (test : List ℕ → Bool) (xs : List ℕ) (k n : ℕ) → test (take (suc k) xs) ≡ b → IsLongest test xs k n
    → IsLongest test xs (suc k) (if b then suc k else n)
front_step true test xs k n is h = record {
  within = omega arith;
  passes = λ some. is;
  longer = λ j more most. absurd (omega arith);
}
front_step false test xs k n is h = record {
  within = let w = h.within in omega arith;
  passes = h.passes;
  longer = λ j more most. later j more most;
}
  where
    later : (j : ℕ) → n < j → j ≤ suc k → test (take j xs) ≡ false
    later j more most = by (j == suc k) refl
      where
        by : (b : Bool) → (j == suc k) ≡ b → test (take j xs) ≡ false
        by true same = ap (λ i. test (take i xs)) (equal_from j (suc k) same) ∙ is
        by false other = h.longer j more (grind (arith, nat_tests))

front_longest_to : (test : List ℕ → Bool) (xs : List ℕ) (k : ℕ) → IsLongest test xs k (longest_up_to k test xs)
front_longest_to test xs zero = record {
  within = omega arith;
  passes = λ some. absurd (omega arith);
  longer = λ j more most. absurd (omega arith);
}
front_longest_to test xs (suc k) = front_step (test (take (suc k) xs)) test xs k (longest_up_to k test xs) refl (front_longest_to test xs k)

pub front_longest : (test : List ℕ → Bool) (xs : List ℕ) → IsLongest test xs (length xs) (longest_up_to (length xs) test xs)
front_longest test xs = front_longest_to test xs (length xs)

pub length_take : (n : ℕ) (xs : List ℕ) → n ≤ length xs → length (take n xs) ≡ n
length_take n xs within = grind (arith, common_steps)

-- what is longer than the longest front doesn't pass
pub no_longer : (test : List ℕ → Bool) (xs more others : List ℕ) → xs ≡ (longest_front test xs ++ more) ++ others
    → test (longest_front test xs ++ more) ≡ true → more ≡ []
no_longer test xs [] others is passes = refl
no_longer test xs (m ∷ ms) others is passes =
    let front = longest_front test xs in
    let h = front_longest test xs in
    let size = length_take (longest_up_to (length xs) test xs) xs h.within in
    let all = length-append (longest_front test xs) (m ∷ ms) in
    let whole = ap length is ∙ length-append (longest_front test xs ++ (m ∷ ms)) others in
    let taken : take (length (longest_front test xs ++ (m ∷ ms))) xs ≡ longest_front test xs ++ (m ∷ ms)
    = ap (take (length (longest_front test xs ++ (m ∷ ms)))) is ∙ take_front (longest_front test xs ++ (m ∷ ms)) others in
    let fails = h.longer (length (longest_front test xs ++ (m ∷ ms))) (omega arith) (omega arith) in
    absurd (true≢false (sym passes ∙ (ap test (sym taken) ∙ fails)))

pub take_past : (xs ys : List ℕ) (j : ℕ) → length xs ≤ j → take j (xs ++ ys) ≡ xs ++ take (j - length xs) ys
take_past [] ys j within = let same : j - 0 ≡ j = omega arith in rw same refl
take_past (x ∷ xs) ys zero within = absurd (omega arith)
take_past (x ∷ xs) ys (suc i) within =
    let same : suc i - suc (length xs) ≡ i - length xs = omega arith in
    rw same (ap (λ zs. x ∷ zs) (take_past xs ys i (omega arith)))

-- a front that passes, and that nothing longer passes, is the longest
pub longest_given : (test : List ℕ → Bool) (front rest : List ℕ) → test front ≡ true
    → ((more others : List ℕ) → rest ≡ more ++ others → test (front ++ more) ≡ true → more ≡ [])
    → longest_front test (front ++ rest) ≡ front
longest_given test front rest passes longest =
    let is = longest_is test (front ++ rest) (length (front ++ rest)) (length front)
    (record {
      within = let all = length-append front rest in omega arith;
      passes = λ some. ap test (take_front front rest) ∙ passes;
      longer = later;
    }) in
    ap (λ n. take n (front ++ rest)) is ∙ take_front front rest
  where
    later : (j : ℕ) → length front < j → j ≤ length (front ++ rest) → test (take j (front ++ rest)) ≡ false
    later j more most = by (test (take j (front ++ rest))) refl
      where
        taken : take j (front ++ rest) ≡ front ++ take (j - length front) rest
        taken = take_past front rest j (omega arith)

        by : (b : Bool) → test (take j (front ++ rest)) ≡ b → b ≡ false
        by false is = refl
        by true is =
            let none = longest (take (j - length front) rest) (drop (j - length front) rest) (sym (take-append-drop (j - length front) rest))
            (ap test (sym taken) ∙ is) in
            let all = length-append front rest in
            let size = length_take (j - length front) rest (omega arith) in
            let zero_is = ap length none in
            absurd (omega arith)
