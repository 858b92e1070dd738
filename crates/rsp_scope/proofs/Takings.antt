-- Lists in which each value stands once, by membership; and what is left of them.
use Rattle.std.proofs.Common.{◌≡◌, Bool, true, false, not, ◌&&◌, ◌||◌, cond, List, [], ◌∷◌, ℤ, pos, ◌+ℤ◌, filter, refl, sym, ap, ◌∙◌, true≢false, Decides, arith}
use Rattle.std.specs.List.{list_any, IsDistinct, AllByRecursion}
use Rattle.std.proofs.lemmas.Int.{ints}
use Rattle.rsp_multiset.specs.Weights.{only, sum_z, times, weight, negation}
use Rattle.rsp_multiset.proofs.Held.{weight-negated}
use Rattle.rsp_multiset.proofs.Sums.{sum_z-alike, sum_z-filter}

module _ {E : Type 0} {eq : E → E → Bool} (same : (x y : E) → Decides (eq x y) (x ≡ y)) where
  none-after : (q x : E) (xs : List E) → eq q x ≡ true → AllByRecursion (λ y. eq x y ≡ false) xs → list_any (eq q) xs ≡ false
  none-after q x [] is apart = refl
  none-after q x (y ∷ xs) is apart =
      (λ i. (ap (λ z. eq z y) ((same q x).0 is) ∙ apart.0) i || none-after q x xs is apart.1 i)

  pub times-distinct : (xs : List E) → IsDistinct eq xs → (q : E) → times eq xs q ≡ only (list_any (eq q) xs) (pos 1)
  unfolding IsDistinct
  times-distinct [] d q = refl
  times-distinct (x ∷ xs) d q = by (eq q x) refl (times-distinct xs d.1 q)
    where
      by : (b : Bool) → eq q x ≡ b → times eq xs q ≡ only (list_any (eq q) xs) (pos 1)
          → only b (pos 1) +ℤ times eq xs q ≡ only (b || list_any (eq q) xs) (pos 1)
      by true is rest =
          let none = ap (λ b. only b (pos 1)) (none-after q x xs is d.0) in
          omega (arith, ints, rest, none)
      by false apart rest = omega (arith, ints, rest)

  gate-one : (p : E → Bool) (q x : E) → only (p x) (only (eq q x) (pos 1)) ≡ only (p q) (only (eq q x) (pos 1))
  gate-one p q x = by (eq q x) refl
    where
      none : (b : Bool) → only b (pos 0) ≡ pos 0
      none true = refl
      none false = refl

      by : (b : Bool) → eq q x ≡ b → only (p x) (only b (pos 1)) ≡ only (p q) (only b (pos 1))
      by true is = ap (λ z. only (p z) (pos 1)) (sym ((same q x).0 is))
      by false apart = none (p x) ∙ sym (none (p q))

  pub times-filter : (p : E → Bool) (xs : List E) (q : E) → times eq (filter p xs) q ≡ only (p q) (times eq xs q)
  times-filter p xs q =
      sum_z-filter (λ x. only (eq q x) (pos 1)) p xs ∙ (sum_z-alike _ _ (gate-one p q) xs ∙ gated (p q) xs)
    where
      gated : (b : Bool) (xs : List E) → sum_z (λ x. only b (only (eq q x) (pos 1))) xs ≡ only b (times eq xs q)
      gated true xs = refl
      gated false [] = refl
      gated false (x ∷ xs) = let rest = gated false xs in omega (arith, ints, rest)

  -- a value put in, of which others hold one
  pub put-shared : (old new others : List E) (x q : E) → list_any (eq x) others ≡ true
      → list_any (eq q) new ≡ cond (eq x q) true (list_any (eq q) old)
      → list_any (eq q) new ≡ (list_any (eq q) old || (list_any (eq q) others && eq q x))
  put-shared old new others x q shared made = made ∙ by (eq x q) (eq q x) refl refl
    where
      or_true : (a : Bool) → true ≡ (a || true)
      or_true true = refl
      or_true false = refl

      or_false : (a b : Bool) → a ≡ (a || (b && false))
      or_false true b = refl
      or_false false true = refl
      or_false false false = refl

      by : (b d : Bool) → eq x q ≡ b → eq q x ≡ d
          → cond b true (list_any (eq q) old) ≡ (list_any (eq q) old || (list_any (eq q) others && d))
      by true true is h = or_true (list_any (eq q) old) ∙ ap (λ b. list_any (eq q) old || (b && true)) (sym shared ∙ ap (λ y. list_any (eq y) others) ((same x q).0 is))
      by true false is h = absurd (true≢false (sym ((same q x).1 (sym ((same x q).0 is))) ∙ h))
      by false true is h = absurd (true≢false (sym ((same x q).1 (sym ((same q x).0 h))) ∙ is))
      by false false is h = or_false (list_any (eq q) old) (list_any (eq q) others)

  -- a value left out, of which others hold none
  pub put-unshared : (old others : List E) (x q : E) → list_any (eq x) others ≡ false
      → list_any (eq q) old ≡ (list_any (eq q) old || (list_any (eq q) others && eq q x))
  put-unshared old others x q unshared = by (eq q x) refl
    where
      or_none : (a b : Bool) → b ≡ false → a ≡ (a || (b && true))
      or_none true b h = refl
      or_none false true h = sym h
      or_none false false h = refl

      or_false : (a b : Bool) → a ≡ (a || (b && false))
      or_false true b = refl
      or_false false true = refl
      or_false false false = refl

      by : (d : Bool) → eq q x ≡ d → list_any (eq q) old ≡ (list_any (eq q) old || (list_any (eq q) others && d))
      by true is = or_none (list_any (eq q) old) (list_any (eq q) others) (ap (λ y. list_any (eq y) others) ((same q x).0 is) ∙ unshared)
      by false is = or_false (list_any (eq q) old) (list_any (eq q) others)

  -- what is left where some went, of lists that hold each value once
  pub left-times : (old new gone : List E) (named : E → Bool) → IsDistinct eq old → IsDistinct eq new
      → ((q : E) → list_any (eq q) gone ≡ (list_any (eq q) old && named q))
      → ((q : E) → list_any (eq q) new ≡ (list_any (eq q) old && not (list_any (eq q) gone)))
      → (q : E) → times eq new q ≡ times eq (filter (λ x. not (named x)) old) q
  left-times old new gone named once still went left q =
      times-distinct new still q
      ∙ (ap (λ b. only b (pos 1)) (left q ∙ ap (λ b. list_any (eq q) old && not b) (went q))
      ∙ (by (list_any (eq q) old) (named q)
      ∙ (ap (λ n. only (not (named q)) n) (sym (times-distinct old once q)) ∙ sym (times-filter (λ x. not (named x)) old q))))
    where
      by : (o n : Bool) → only (o && not (o && n)) (pos 1) ≡ only (not n) (only o (pos 1))
      by true true = refl
      by true false = refl
      by false true = refl
      by false false = refl

  -- and the change
  pub left-changed : (old new gone : List E) (entries : List (E × ℤ)) (named : E → Bool) → IsDistinct eq old → IsDistinct eq new → IsDistinct eq gone
      → ((q : E) → list_any (eq q) gone ≡ (list_any (eq q) old && named q))
      → ((q : E) → list_any (eq q) new ≡ (list_any (eq q) old && not (list_any (eq q) gone)))
      → ((q : E) → weight eq entries q ≡ times eq gone q)
      → (q : E) → times eq new q ≡ times eq old q +ℤ weight eq (negation entries) q
  left-changed old new gone entries named once still alone went left counted q =
      let after = times-distinct new still q ∙ ap (λ b. only b (pos 1)) (left q ∙ ap (λ b. list_any (eq q) old && not b) (went q)) in
      let before = times-distinct old once q in
      let out = counted q ∙ (times-distinct gone alone q ∙ ap (λ b. only b (pos 1)) (went q)) in
      let signed = weight-negated eq entries q in
      let cases = by (list_any (eq q) old) (named q) in
      omega (arith, ints, after, before, out, signed, cases)
    where
      by : (o n : Bool) → only (o && not (o && n)) (pos 1) +ℤ only (o && n) (pos 1) ≡ only o (pos 1)
      by true true = refl
      by true false = refl
      by false true = refl
      by false false = refl
