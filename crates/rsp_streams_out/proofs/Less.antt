-- How often a value is in what is left of one list without another.
use Rattle.std.proofs.Common.{◌≡◌, Bool, true, false, List, [], ◌∷◌, ℤ, pos, negsuc, ◌+ℤ◌, neg_ℤ, ◌≤ℤ◌, suc, ◌+◌, cond, not, refl, sym, ap, ◌∙◌, arith, inl, inr, true≢false, Decides}
use Rattle.std.proofs.lemmas.Bool.{cases_Bool, cond-true, cond-false}
use Rattle.std.proofs.lemmas.Int.{ints}
use Rattle.rsp_multiset.specs.Weights.{only, times, above}
use Rattle.rsp_multiset.proofs.Changing.{times-ge}
use Rattle.rsp_multiset.proofs.Signs.{above-nonneg}
use Rattle.std.specs.List.{position_or_len}
use Rattle.std.specs.Prelude.{remove}
use Rattle.rsp_streams_out.specs.Streams.{less}
use Rattle.rsp_streams_out.specs.Turning.{excess}

-- the list without its first x; the list itself where it has none
abbrev without_one : {E : Type 0} → (E → E → Bool) → E → List E → List E
without_one eq x [] = []
without_one eq x (y ∷ ys) = cond (eq x y) ys (y ∷ without_one eq x ys)

removed : {E : Type 0} (eq : E → E → Bool) (x : E) (ys : List E) → remove ys (position_or_len (eq x) ys) ≡ without_one eq x ys
removed eq x [] = refl
removed eq x (y ∷ ys) =
    let rest = removed eq x ys in
    elim (eq x y) as (λ b. remove (y ∷ ys) (cond (not b) (1 + position_or_len (eq x) ys) 0) ≡ cond b ys (y ∷ without_one eq x ys)) [
      | true ↦ refl
      | false ↦
          let one : 1 + position_or_len (eq x) ys ≡ suc (position_or_len (eq x) ys) = omega arith in
          ap (remove (y ∷ ys)) one ∙ ap (λ zs. y ∷ zs) rest
    ]

above-none : (n : ℤ) → n ≤ℤ pos 0 → above n ≡ pos 0
above-none (pos n) h = ap pos (omega (arith, ints, h))
above-none (negsuc n) h = refl

-- n are taken from what is left of z
above_twice : (z n : ℤ) → pos 0 ≤ℤ n → above (above z +ℤ neg_ℤ n) ≡ above (z +ℤ neg_ℤ n)
above_twice (pos z) n h = refl
above_twice (negsuc z) n h =
    above-none (pos 0 +ℤ neg_ℤ n) (omega (arith, ints, h)) ∙ sym (above-none (negsuc z +ℤ neg_ℤ n) (omega (arith, ints, h)))

-- one is taken, if b says so, from n and a first one that is there if d says so, which isn't the one that is taken
first_stays : (b d : Bool) (n : ℤ) → pos 0 ≤ℤ n → (b ≡ true → d ≡ true → ⊥)
    → only d (pos 1) +ℤ above (n +ℤ neg_ℤ (only b (pos 1))) ≡ above (only d (pos 1) +ℤ n +ℤ neg_ℤ (only b (pos 1)))
first_stays true true n h apart = absurd (apart refl refl)
first_stays true false n h apart =
    let sum : pos 0 +ℤ n +ℤ neg_ℤ (pos 1) ≡ n +ℤ neg_ℤ (pos 1) = omega (arith, ints) in
    let left : pos 0 +ℤ above (n +ℤ neg_ℤ (pos 1)) ≡ above (n +ℤ neg_ℤ (pos 1)) = omega (arith, ints) in left ∙ sym (ap above sum)
first_stays false true n h apart =
    let left : n +ℤ neg_ℤ (pos 0) ≡ n = omega (arith, ints) in
    let right : pos 1 +ℤ n +ℤ neg_ℤ (pos 0) ≡ pos 1 +ℤ n = omega (arith, ints) in
    ap (λ m. pos 1 +ℤ m) (ap above left ∙ above-nonneg n h) ∙ sym (ap above right ∙ above-nonneg (pos 1 +ℤ n) (omega (arith, ints, h)))
first_stays false false n h apart =
    let left : n +ℤ neg_ℤ (pos 0) ≡ n = omega (arith, ints) in
    let right : pos 0 +ℤ n +ℤ neg_ℤ (pos 0) ≡ pos 0 +ℤ n = omega (arith, ints) in
    ap (λ m. pos 0 +ℤ m) (ap above left ∙ above-nonneg n h) ∙ sym (ap above right ∙ above-nonneg (pos 0 +ℤ n) (omega (arith, ints, h)))

module _ {E : Type 0} (eq : E → E → Bool) (same : (x y : E) → Decides (eq x y) (x ≡ y)) where
  first_gone : (q x y : E) (ys : List E) → eq x y ≡ true → times eq ys q ≡ above (times eq (y ∷ ys) q +ℤ neg_ℤ (only (eq q x) (pos 1)))
  first_gone q x y ys h =
      let is = ap (λ z. only (eq q z) (pos 1)) ((same x y).0 h) in
      let left : times eq (y ∷ ys) q +ℤ neg_ℤ (only (eq q x) (pos 1)) ≡ times eq ys q = omega (arith, ints, is) in
      sym (ap above left ∙ above-nonneg (times eq ys q) (times-ge eq ys q))

  without_one-times : (x : E) (ys : List E) (q : E) → times eq (without_one eq x ys) q ≡ above (times eq ys q +ℤ neg_ℤ (only (eq q x) (pos 1)))
  without_one-times x [] q = sym (above-none (pos 0 +ℤ neg_ℤ (only (eq q x) (pos 1))) (none (eq q x)))
    where
      none : (b : Bool) → (pos 0 +ℤ neg_ℤ (only b (pos 1))) ≤ℤ pos 0
      none true = omega (arith, ints)
      none false = omega (arith, ints)
  without_one-times x (y ∷ ys) q =
      elim (cases_Bool (eq x y)) [
        | inl h ↦ ap (λ zs. times eq zs q) (cond-true _ _ _ h) ∙ first_gone q x y ys h
        | inr h ↦
            ap (λ zs. times eq zs q) (cond-false _ _ _ h) ∙ ap (λ n. only (eq q y) (pos 1) +ℤ n) (without_one-times x ys q)
            ∙ first_stays (eq q x) (eq q y) (times eq ys q) (times-ge eq ys q)
            (λ p r. true≢false (sym (ap (λ z. eq z y) (sym ((same q x).0 p)) ∙ r) ∙ h))
      ]

  -- how often the first list holds a value beyond how often the second does
  pub less-times : (xs ys : List E) (q : E) → times eq (less eq xs ys) q ≡ excess eq xs ys q
  less-times xs [] q =
      let left : times eq xs q +ℤ neg_ℤ (pos 0) ≡ times eq xs q = omega (arith, ints) in
      sym (ap above left ∙ above-nonneg (times eq xs q) (times-ge eq xs q))
  less-times xs (y ∷ ys) q =
      let sum : times eq xs q +ℤ neg_ℤ (only (eq q y) (pos 1)) +ℤ neg_ℤ (times eq ys q)
      ≡ times eq xs q +ℤ neg_ℤ (only (eq q y) (pos 1) +ℤ times eq ys q) = omega (arith, ints) in
      ap (λ zs. times eq (less eq zs ys) q) (removed eq y xs) ∙ less-times (without_one eq y xs) ys q
      ∙ ap (λ n. above (n +ℤ neg_ℤ (times eq ys q))) (without_one-times y xs q)
      ∙ above_twice (times eq xs q +ℤ neg_ℤ (only (eq q y) (pos 1))) (times eq ys q) (times-ge eq ys q) ∙ ap above sum
