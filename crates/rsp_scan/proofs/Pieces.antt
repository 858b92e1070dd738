-- What is spelled is made of pieces, and pieces are what is spelled.
use Rattle.std.proofs.Common.{◌≡◌, ◌≢◌, ℕ, zero, suc, ◌+◌, ◌/◌, ◌%◌, ◌<◌, ◌≤◌, Bool, true, false, cond, List, [], ◌∷◌, ◌++◌, map, length, drop, refl, sym, ap, subst, ◌∙◌, arith, append_assoc, append-nil, Option, Some, None}
use Rattle.std.specs.Prelude.{⊤, nat_lt}
use Rattle.std.specs.Char.{encode_utf8}
use Rattle.std.specs.List.{list_all, take_while, concat, AllByRecursion}
use Rattle.std.specs.Str.{is_utf8, all_scalars, encode_utf8_all}
use Rattle.std.proofs.lemmas.Bool.Decides.{nat_tests}
use Rattle.std.proofs.lemmas.List.Folds.{list_all-append}
use Rattle.std.proofs.lemmas.List.Sums.{take_while-cons}
use Rattle.std.proofs.lemmas.Str.{is_utf8-from_IsUtf8, IsUtf8-from_is_utf8, IsUtf8-append, IsUtf8-encode, IsUtf8-nil, encode_ascii}
use Rattle.std.proofs.Math.Bool.{and-true}
use Rattle.std.proofs.lemmas.Bool.{and_from}
use Rattle.rsp_spec.proofs.Truths.{and_left, and_right}
use Rattle.rsp_scan.specs.Readers.{PartReader, behind, onto, spelled}
use Rattle.rsp_scan.specs.Enclosed.{Piece, plain, short, long, named, piece_text, StandsFor, IsPieceOf, is_scalar}
use Rattle.rsp_scan.proofs.Spelling.{onto_onto, none_spelled, last_spelled, more_spelled}

abbrev pub both_of : List ℕ → List ℕ → Option (List ℕ × List ℕ)
both_of a b = Some (a, b)

pub pair_same : (a v b r : List ℕ) → both_of a b ≡ both_of v r → (a ≡ v) × (b ≡ r)
pair_same a v b r is =
    let same : ◌≡◌ {A = List ℕ × List ℕ} (a, b) (v, r) = cc in
    (ap (λ (y : List ℕ × List ℕ). y.0) same, ap (λ (y : List ℕ × List ℕ). y.1) same)

both_same : {a v b r : List ℕ} → a ≡ v → b ≡ r → both_of a b ≡ both_of v r
both_same {a} {v} {b} {r} first second = rw (first, second) refl

-- ---- scalar values

pub scalar_from : (c : ℕ) → is_scalar c ≡ true → all_scalars (c ∷ []) ≡ true
scalar_from c h = grind (arith, nat_tests)

pub scalar_to : (c : ℕ) (cs : List ℕ) → all_scalars (c ∷ cs) ≡ true → is_scalar c ≡ true
scalar_to c cs h = let one : all_scalars (c ∷ []) ≡ true = and_from _ true (and_left _ (all_scalars cs) h) refl in grind (arith, nat_tests)

-- ---- plain bytes and plain characters

abbrev pub IsWide : (ℕ → Bool) → Type 0
IsWide test = (c : ℕ) → 128 ≤ c → test c ≡ true

pub wide_bytes : (test : ℕ → Bool) → IsWide test → (c : ℕ) → 128 ≤ c → list_all test (encode_utf8 c) ≡ true
unfolding encode_utf8
wide_bytes test wide c high = by (nat_lt c 2048) (nat_lt c 65536) refl refl
  where
    ascii : nat_lt c 128 ≡ false
    ascii = grind (arith, nat_tests)

    by : (two three : Bool) → nat_lt c 2048 ≡ two → nat_lt c 65536 ≡ three → list_all test (encode_utf8 c) ≡ true
    by true three a b = rw (ascii, a, wide (192 + c / 64) (omega arith), wide (128 + c % 64) (omega arith)) refl
    by false true a b =
        rw (ascii, a, b, wide (224 + c / 4096) (omega arith), wide (128 + c / 64 % 64) (omega arith), wide (128 + c % 64) (omega arith)) refl
    by false false a b =
        rw (
          ascii,
          a,
          b,
          wide (240 + c / 262144) (omega arith),
          wide (128 + c / 4096 % 64) (omega arith),
          wide (128 + c / 64 % 64) (omega arith),
          wide (128 + c % 64) (omega arith),
        )
        refl

plain_bytes_by : (test : ℕ → Bool) → IsWide test → (c : ℕ) (low : Bool) → nat_lt c 128 ≡ low → list_all test (encode_utf8 c) ≡ test c
plain_bytes_by test wide c true is =
    let ascii : c < 128 = grind (arith, nat_tests) in
    rw (encode_ascii c ascii) (and-true (test c))
plain_bytes_by test wide c false is =
    let high : 128 ≤ c = grind (arith, nat_tests) in
    wide_bytes test wide c high ∙ sym (wide c high)

plain_bytes : (test : ℕ → Bool) → IsWide test → (c : ℕ) → list_all test (encode_utf8 c) ≡ test c
plain_bytes test wide c = plain_bytes_by test wide c (nat_lt c 128) refl

plain_characters : (test : ℕ → Bool) → IsWide test → (cs : List ℕ) → list_all test (encode_utf8_all cs) ≡ list_all test cs
plain_characters test wide [] = refl
plain_characters test wide (c ∷ cs) =
    list_all-append test (encode_utf8 c) (encode_utf8_all cs) ∙ rw (plain_bytes test wide c, plain_characters test wide cs) refl

pub all_run : (test : ℕ → Bool) (xs : List ℕ) → list_all test (take_while test xs) ≡ true
all_run test [] = refl
all_run test (x ∷ xs) = rw (take_while-cons test x xs) (by (test x) refl (all_run test xs))
  where
    by : (b : Bool) → test x ≡ b → list_all test (take_while test xs) ≡ true → list_all test (cond b (x ∷ take_while test xs) []) ≡ true
    by true is more = rw is more
    by false is more = refl

pub run_split : (test : ℕ → Bool) (xs : List ℕ) → xs ≡ take_while test xs ++ behind (take_while test xs) xs
run_split test [] = refl
run_split test (x ∷ xs) = by (test x) refl (run_split test xs)
  where
    by : (b : Bool) → test x ≡ b → xs ≡ take_while test xs ++ behind (take_while test xs) xs
        → (x ∷ xs) ≡ take_while test (x ∷ xs) ++ behind (take_while test (x ∷ xs)) (x ∷ xs)
    by true is more = rw (take_while-cons test x xs, is) (ap (λ ys. x ∷ ys) more)
    by false is more = rw (take_while-cons test x xs, is) refl

run_onto : (test : ℕ → Bool) (xs ys : List ℕ) → list_all test xs ≡ true → take_while test (xs ++ ys) ≡ xs ++ take_while test ys
run_onto test [] ys h = refl
run_onto test (x ∷ xs) ys h =
    rw (take_while-cons test x (xs ++ ys), and_left (test x) (list_all test xs) h)
    (ap (λ zs. x ∷ zs) (run_onto test xs ys (and_right (test x) (list_all test xs) h)))

no_run : (test : ℕ → Bool) (x : ℕ) (ys : List ℕ) → test x ≡ false → take_while test (x ∷ ys) ≡ []
no_run test x ys h = rw (take_while-cons test x ys, h) refl

-- ---- pieces in a row

abbrev pub texts : List (Piece × ℕ) → List ℕ
texts pieces = concat (map (λ x. piece_text x.0) pieces)

abbrev pub values : List (Piece × ℕ) → List ℕ
values pieces = encode_utf8_all (map (λ x. x.1) pieces)

pub record Pieced (may : Piece → ℕ → Type 0) (text rest value : List ℕ) : Type 0 where
  pub pieces : List (Piece × ℕ)
  pub each : AllByRecursion (IsPieceOf may) pieces
  pub text_is : text ≡ texts pieces ++ rest
  pub value_is : value ≡ values pieces

each-append : (may : Piece → ℕ → Type 0) (ps qs : List (Piece × ℕ)) → AllByRecursion (IsPieceOf may) ps → AllByRecursion (IsPieceOf may) qs
    → AllByRecursion (IsPieceOf may) (ps ++ qs)
each-append may [] qs hp hq = hq
each-append may (p ∷ ps) qs hp hq = (hp.0, each-append may ps qs hp.1 hq)

texts-append : (ps qs : List (Piece × ℕ)) → texts (ps ++ qs) ≡ texts ps ++ texts qs
texts-append [] qs = refl
texts-append (p ∷ ps) qs = ap (λ ys. piece_text p.0 ++ ys) (texts-append ps qs) ∙ sym (append_assoc (piece_text p.0) (texts ps) (texts qs))

values-append : (ps qs : List (Piece × ℕ)) → values (ps ++ qs) ≡ values ps ++ values qs
values-append [] qs = refl
values-append (p ∷ ps) qs = ap (λ ys. encode_utf8 p.1 ++ ys) (values-append ps qs) ∙ sym (append_assoc (encode_utf8 p.1) (values ps) (values qs))

pub joined : (may : Piece → ℕ → Type 0) (a b c v w : List ℕ) → Pieced may a b v → Pieced may b c w → Pieced may a c (v ++ w)
joined may a b c v w p q = record {
  pieces = p.pieces ++ q.pieces;
  each = each-append may p.pieces q.pieces p.each q.each;
  text_is =
      p.text_is ∙ (ap (λ ys. texts p.pieces ++ ys) q.text_is
      ∙ (sym (append_assoc (texts p.pieces) (texts q.pieces) c) ∙ ap (λ ys. ys ++ c) (sym (texts-append p.pieces q.pieces))));
  value_is = rw (p.value_is, q.value_is) (sym (values-append p.pieces q.pieces));
}

-- plain characters are pieces
abbrev pub plains : List ℕ → List (Piece × ℕ)
plains cs = map (λ c. (plain c, c)) cs

pub plain_texts : (cs : List ℕ) → texts (plains cs) ≡ encode_utf8_all cs
plain_texts [] = refl
plain_texts (c ∷ cs) = ap (λ ys. encode_utf8 c ++ ys) (plain_texts cs)

pub plain_values : (cs : List ℕ) → values (plains cs) ≡ encode_utf8_all cs
plain_values [] = refl
plain_values (c ∷ cs) = ap (λ ys. encode_utf8 c ++ ys) (plain_values cs)

abbrev pub IsEscape : Piece → Type 0
IsEscape (plain c) = ⊥
IsEscape _ = ⊤

-- how a test, a reader of escapes and the pieces that may stand go together
pub record Spells (test : ℕ → Bool) (escape : PartReader ℕ) (may : Piece → ℕ → Type 0) : Type 0 where
  pub wide : IsWide test
  pub may_from : (c : ℕ) → test c ≡ true → may (plain c) c
  pub may_to : (c : ℕ) → may (plain c) c → test c ≡ true
  pub bar : test 92 ≡ false
  pub found : (text rest : List ℕ) (c : ℕ) → escape text ≡ Some (c, rest)
      → (p : Piece) × ((text ≡ piece_text p ++ rest) × (is_scalar c ≡ true) × StandsFor p c × may p c)
  pub finds : (p : Piece) (c : ℕ) (rest : List ℕ) → IsEscape p → is_scalar c ≡ true → StandsFor p c → may p c
      → escape (piece_text p ++ rest) ≡ Some (c, rest)
  pub none : (c : ℕ) (rest : List ℕ) → c ≢ 92 → escape (c ∷ rest) ≡ None

module _ (test : ℕ → Bool) (escape : PartReader ℕ) (may : Piece → ℕ → Type 0) (h : Spells test escape may) where
  each_plain : (cs : List ℕ) → all_scalars cs ≡ true → list_all test cs ≡ true → AllByRecursion (IsPieceOf may) (plains cs)
  each_plain [] scalars passes = tt
  each_plain (c ∷ cs) scalars passes = (
    (scalar_to c cs scalars, refl, h.may_from c (and_left (test c) (list_all test cs) passes)),
    each_plain cs (and_right _ (all_scalars cs) scalars) (and_right (test c) (list_all test cs) passes),
  )

  run_pieced : (text : List ℕ) → is_utf8 (take_while test text) ≡ true
      → Pieced may text (behind (take_while test text) text) (take_while test text)
  run_pieced text whole =
      let run = IsUtf8-from_is_utf8 (take_while test text) whole in
      let passes : list_all test run.0 ≡ true
      = sym (plain_characters test h.wide run.0) ∙ (ap (list_all test) run.1.1 ∙ all_run test text) in
      record {
        pieces = plains run.0;
        each = each_plain run.0 run.1.0 passes;
        text_is = run_split test text ∙ ap (λ ys. ys ++ behind (take_while test text) text) (sym (plain_texts run.0 ∙ run.1.1));
        value_is = sym (plain_values run.0 ∙ run.1.1);
      }

  escape_pieced : (text rest : List ℕ) (c : ℕ) → escape text ≡ Some (c, rest) → Pieced may text rest (encode_utf8 c)
  escape_pieced text rest c is =
      let p = h.found text rest c is in
      record {
        pieces = (p.0, c) ∷ [];
        each = ((p.1.1, p.1.2, p.1.3), tt);
        text_is = p.1.0 ∙ ap (λ ys. ys ++ rest) (sym (append-nil (piece_text p.0)));
        value_is = sym (append-nil (encode_utf8 c));
      }

  onto_some : (front v rest : List ℕ) (o : Option (List ℕ × List ℕ)) → onto front o ≡ Some (v, rest)
      → (w : List ℕ) × ((o ≡ Some (w, rest)) × (v ≡ front ++ w))
  onto_some front v rest None is = absurd (cc)
  onto_some front v rest (Some x) is =
      let same = pair_same (front ++ x.0) v x.1 rest is in
      (x.0, (ap (λ r. Some (x.0, r)) same.1, sym same.0))

  pub pieced : (n : ℕ) (text rest v : List ℕ) → spelled n test escape text ≡ Some (v, rest) → Pieced may text rest v
  unfolding spelled
  pieced zero text rest v is = absurd (cc)
  pieced (suc n) text rest v is =
      by (is_utf8 (take_while test text)) refl (escape (behind (take_while test text) text)) refl (λ t w. pieced n t rest w)
    where
      by : (b : Bool) → is_utf8 (take_while test text) ≡ b → (o : Option (ℕ × List ℕ)) → escape (behind (take_while test text) text) ≡ o
          → ((t w : List ℕ) → spelled n test escape t ≡ Some (w, rest) → Pieced may t rest w) → Pieced may text rest v
      by false whole o esc more = absurd (let none = none_spelled n test escape text whole in cc)
      by true whole None esc more =
          let all : Some (take_while test text, behind (take_while test text) text) ≡ Some (v, rest)
          = sym (last_spelled n test escape text whole esc) ∙ is in
          let same = pair_same (take_while test text) v (behind (take_while test text) text) rest all in
          subst (λ y. Pieced may text y v) same.1 (subst (λ y. Pieced may text (behind (take_while test text) text) y) same.0 (run_pieced text whole))
      by true whole (Some x) esc more =
          let all = sym (more_spelled n test escape text whole x.0 x.1 esc) ∙ is in
          let parts = onto_some (take_while test text ++ encode_utf8 x.0) v rest (spelled n test escape x.1) all in
          rw parts.1.1
          (joined may text x.1 rest (take_while test text ++ encode_utf8 x.0) parts.0
          (joined may text (behind (take_while test text) text) x.1 (take_while test text) (encode_utf8 x.0)
          (run_pieced text whole)
          (escape_pieced (behind (take_while test text) text) x.1 x.0 esc))
          (more x.1 parts.0 parts.1.0))

  -- ---- and the other way round

  drop_both : (xs ys zs : List ℕ) → drop (length (xs ++ ys)) (xs ++ zs) ≡ drop (length ys) zs
  drop_both [] ys zs = refl
  drop_both (x ∷ xs) ys zs = drop_both xs ys zs

  plain_step : (n c : ℕ) (text v rest : List ℕ) → is_scalar c ≡ true → test c ≡ true → spelled (suc n) test escape text ≡ Some (v, rest)
      → spelled (suc n) test escape (encode_utf8 c ++ text) ≡ Some (encode_utf8 c ++ v, rest)
  plain_step n c text v rest scalar passes is = by (is_utf8 (take_while test text)) refl (escape (behind (take_while test text) text)) refl
    where
      run : take_while test (encode_utf8 c ++ text) ≡ encode_utf8 c ++ take_while test text
      run = run_onto test (encode_utf8 c) text (plain_bytes test h.wide c ∙ passes)

      rest_is : behind (take_while test (encode_utf8 c ++ text)) (encode_utf8 c ++ text) ≡ behind (take_while test text) text
      rest_is = ap (λ xs. drop (length xs) (encode_utf8 c ++ text)) run ∙ drop_both (encode_utf8 c) (take_while test text) text

      by : (b : Bool) → is_utf8 (take_while test text) ≡ b → (o : Option (ℕ × List ℕ)) → escape (behind (take_while test text) text) ≡ o
          → spelled (suc n) test escape (encode_utf8 c ++ text) ≡ Some (encode_utf8 c ++ v, rest)
      by false whole o esc = absurd (let none = none_spelled n test escape text whole in cc)
      by true whole None esc =
          let same = pair_same (take_while test text) v (behind (take_while test text) text) rest (sym (last_spelled n test escape text whole esc) ∙ is) in
          last_spelled n test escape (encode_utf8 c ++ text)
          (ap is_utf8 run ∙ is_utf8-from_IsUtf8 _ (IsUtf8-append _ _ (IsUtf8-encode c (and_left _ true (scalar_from c scalar))) (IsUtf8-from_is_utf8 _ whole)))
          (ap escape rest_is ∙ esc)
          ∙ both_same (run ∙ ap (λ ys. encode_utf8 c ++ ys) same.0) (rest_is ∙ same.1)
      by true whole (Some x) esc =
          more_spelled n test escape (encode_utf8 c ++ text)
          (ap is_utf8 run ∙ is_utf8-from_IsUtf8 _ (IsUtf8-append _ _ (IsUtf8-encode c (and_left _ true (scalar_from c scalar))) (IsUtf8-from_is_utf8 _ whole)))
          x.0 x.1
          (ap escape rest_is ∙ esc)
          ∙ (ap (λ xs. onto (xs ++ encode_utf8 x.0) (spelled n test escape x.1)) run
          ∙ (ap (λ xs. onto xs (spelled n test escape x.1)) (append_assoc (encode_utf8 c) (take_while test text) (encode_utf8 x.0))
          ∙ (sym (onto_onto (encode_utf8 c) (take_while test text ++ encode_utf8 x.0) (spelled n test escape x.1))
          ∙ ap (onto (encode_utf8 c)) (sym (more_spelled n test escape text whole x.0 x.1 esc) ∙ is))))

  escape_step : (n c : ℕ) (bytes text v rest : List ℕ) → escape ((92 ∷ bytes) ++ text) ≡ Some (c, text) → spelled n test escape text ≡ Some (v, rest)
      → spelled (suc n) test escape ((92 ∷ bytes) ++ text) ≡ Some (encode_utf8 c ++ v, rest)
  escape_step n c bytes text v rest esc is =
      let run = no_run test 92 (bytes ++ text) h.bar in
      more_spelled n test escape ((92 ∷ bytes) ++ text) (ap is_utf8 run ∙ is_utf8-from_IsUtf8 [] IsUtf8-nil) c text (rw run esc)
      ∙ rw (run, is) refl

  end_step : (n c : ℕ) (rest : List ℕ) → test c ≡ false → c ≢ 92 → spelled (suc n) test escape (c ∷ rest) ≡ Some ([], c ∷ rest)
  end_step n c rest fails other =
      let run = no_run test c rest fails in
      last_spelled n test escape (c ∷ rest) (ap is_utf8 run ∙ is_utf8-from_IsUtf8 [] IsUtf8-nil) (rw run (h.none c rest other))
      ∙ rw run refl

  pub pieces_spelled : (n : ℕ) (pieces : List (Piece × ℕ)) (c : ℕ) (rest : List ℕ) → AllByRecursion (IsPieceOf may) pieces → length pieces ≤ n
      → test c ≡ false → c ≢ 92 → spelled (suc n) test escape (texts pieces ++ (c ∷ rest)) ≡ Some (values pieces, c ∷ rest)
  pieces_spelled n [] c rest each most fails other = end_step n c rest fails other
  pieces_spelled n ((plain d, e) ∷ ps) c rest each most fails other =
      let same : d ≡ e = each.0.1 in
      let passes : test e ≡ true = h.may_to e (rw same at each.0.2) in
      rw (append_assoc (encode_utf8 d) (texts ps) (c ∷ rest), same)
      (plain_step n e (texts ps ++ (c ∷ rest)) (values ps) (c ∷ rest) each.0.0 passes (pieces_spelled n ps c rest each.1 (omega arith) fails other))
  pieces_spelled zero ((short ds, e) ∷ ps) c rest each most fails other = absurd (omega arith)
  pieces_spelled (suc n) ((short ds, e) ∷ ps) c rest each most fails other =
      rw (append_assoc (piece_text (short ds)) (texts ps) (c ∷ rest))
      (escape_step (suc n) e (117 ∷ ds) (texts ps ++ (c ∷ rest)) (values ps) (c ∷ rest)
      (h.finds (short ds) e (texts ps ++ (c ∷ rest)) tt each.0.0 each.0.1 each.0.2)
      (pieces_spelled n ps c rest each.1 (omega arith) fails other))
  pieces_spelled zero ((long ds, e) ∷ ps) c rest each most fails other = absurd (omega arith)
  pieces_spelled (suc n) ((long ds, e) ∷ ps) c rest each most fails other =
      rw (append_assoc (piece_text (long ds)) (texts ps) (c ∷ rest))
      (escape_step (suc n) e (85 ∷ ds) (texts ps ++ (c ∷ rest)) (values ps) (c ∷ rest)
      (h.finds (long ds) e (texts ps ++ (c ∷ rest)) tt each.0.0 each.0.1 each.0.2)
      (pieces_spelled n ps c rest each.1 (omega arith) fails other))
  pieces_spelled zero ((named d, e) ∷ ps) c rest each most fails other = absurd (omega arith)
  pieces_spelled (suc n) ((named d, e) ∷ ps) c rest each most fails other =
      rw (append_assoc (piece_text (named d)) (texts ps) (c ∷ rest))
      (escape_step (suc n) e (d ∷ []) (texts ps ++ (c ∷ rest)) (values ps) (c ∷ rest)
      (h.finds (named d) e (texts ps ++ (c ∷ rest)) tt each.0.0 each.0.1 each.0.2)
      (pieces_spelled n ps c rest each.1 (omega arith) fails other))
