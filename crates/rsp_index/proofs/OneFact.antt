-- One element that comes into a list without repetition, or goes out of it.
use Rattle.std.proofs.Common.{◌≡◌, Bool, true, false, true≢false, not, cond, ◌||◌, List, [], ◌∷◌, pos, negsuc, ◌+ℤ◌, refl, sym, ap, subst, ◌∙◌, arith, Decides}
use Rattle.std.specs.List.{IsDistinct, AllByRecursion, list_any}
use Rattle.std.proofs.lemmas.Int.{ints}
use Rattle.rsp_multiset.specs.Weights.{only, times}
use Rattle.rsp_multiset.proofs.Linear.{turned}

module _ {E : Type 0} {eq : E → E → Bool} (same : (x y : E) → Decides (eq x y) (x ≡ y)) where
  none_times : (x : E) (xs : List E) → AllByRecursion (λ y. eq x y ≡ false) xs → times eq xs x ≡ pos 0
  none_times x [] none = refl
  none_times x (y ∷ xs) none = (λ i. only (none.0 i) (pos 1) +ℤ none_times x xs none.1 i)

  times_set : (xs : List E) → IsDistinct eq xs → (q : E) → times eq xs q ≡ only (list_any (eq q) xs) (pos 1)
  unfolding IsDistinct
  times_set [] set q = refl
  times_set (x ∷ xs) set q = by (eq q x) refl (times_set xs set.1 q)
    where
      by : (b : Bool) → eq q x ≡ b → times eq xs q ≡ only (list_any (eq q) xs) (pos 1) → only b (pos 1) +ℤ times eq xs q ≡ only (b || list_any (eq q) xs) (pos 1)
      by true is rest =
          let none = subst (λ y. times eq xs y ≡ pos 0) (sym ((same q x).0 is)) (none_times x xs set.0) in
          omega (arith, ints)
      by false is rest = omega (arith, ints)

  one_changed : (is_x there comes : Bool) → (is_x ≡ true → there ≡ not comes) → only (cond is_x comes there) (pos 1) ≡ only there (pos 1) +ℤ only is_x (cond comes (pos 1) (negsuc 0))
  one_changed true true true h = absurd (true≢false (h refl))
  one_changed true true false h = refl
  one_changed true false true h = refl
  one_changed true false false h = absurd (true≢false (sym (h refl)))
  one_changed false true comes h = refl
  one_changed false false comes h = refl

  pub set_changed : (before after : List E) (x : E) (comes : Bool) → IsDistinct eq before → IsDistinct eq after → ((q : E) → list_any (eq q) after ≡ cond (eq x q) comes (list_any (eq q) before))
      → list_any (eq x) before ≡ not comes → (q : E) → times eq after q ≡ times eq before q +ℤ only (eq q x) (cond comes (pos 1) (negsuc 0))
  set_changed before after x comes set set_after is there q =
      times_set after set_after q
      ∙ (ap (λ b. only b (pos 1)) (is q)
      ∙ (one_changed (eq x q) (list_any (eq q) before) comes (λ e. ap (λ y. list_any (eq y) before) (sym ((same x q).0 e)) ∙ there)
      ∙ (λ i. sym (times_set before set q) i +ℤ only (turned same x q i) (cond comes (pos 1) (negsuc 0)))))
