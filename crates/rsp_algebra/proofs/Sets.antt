-- Lists without repetition.
use Rattle.std.proofs.Common.{◌≡◌, ◌≢◌, ◌⊎◌, inl, inr, ℕ, zero, suc, Bool, true, false, true≢false, not, cond, ◌||◌, List, [], ◌∷◌, ℤ, pos, negsuc, ◌+ℤ◌, drop, get_or, length, refl, sym, ap, subst, ◌∙◌, arith, Decides}
use Rattle.std.specs.List.{IsDistinct, AllByRecursion, list_any}
use Rattle.std.specs.Map.{keys_of}
use Rattle.std.proofs.lemmas.Int.{ints}
use Rattle.std.proofs.lemmas.List.Elements.{recursion_from_All}
use Rattle.rsp_multiset.specs.Weights.{only, weight, times, AreChanges, IsChanged}
use Rattle.rsp_multiset.proofs.Linear.{itself, turned}

turn_of : (w by n before : ℤ) → w ≡ by → n ≡ before → by ≢ pos 0 → (w ≡ pos 0) ⊎ (((w ≡ pos 1) × (before ≡ pos 0)) ⊎ ((w ≡ negsuc 0) × (before ≡ pos 1))) → ((by ≡ pos 1) × (n ≡ pos 0)) ⊎ ((by ≡ negsuc 0) × (n ≡ pos 1))
turn_of w by n before is same counted (inl stays) = absurd (counted (sym is ∙ stays))
turn_of w by n before is same counted (inr (inl comes)) = inl (sym is ∙ comes.0, same ∙ comes.1)
turn_of w by n before is same counted (inr (inr goes)) = inr (sym is ∙ goes.0, same ∙ goes.1)

module _ {X : Type 0} where
  dropped_none : (i : ℕ) (x : X) (rest : List X) → drop i [] ≡ x ∷ rest → ⊥
  dropped_none zero x rest is = let never : 0 ≡ suc (length rest) = ap length is in (let no : ⊥ = omega (arith, never) in no)
  dropped_none (suc i) x rest is = let never : 0 ≡ suc (length rest) = ap length is in (let no : ⊥ = omega (arith, never) in no)

  -- what holds of every element holds of the first that is left
  pub at_dropped : (P : X → Type 0) (xs : List X) (i : ℕ) (x : X) (rest : List X) → AllByRecursion P xs → drop i xs ≡ x ∷ rest → P x
  at_dropped P [] i x rest all is = absurd (dropped_none i x rest is)
  at_dropped P (y ∷ xs) zero x rest all is = subst P (ap (λ l. get_or l 0 y) is) all.0
  at_dropped P (y ∷ xs) (suc i) x rest all is = at_dropped P xs i x rest all.1 is

module _ {E : Type 0} {eq : E → E → Bool} (same : (x y : E) → Decides (eq x y) (x ≡ y)) where
  none_times : (x : E) (xs : List E) → AllByRecursion (λ y. eq x y ≡ false) xs → times eq xs x ≡ pos 0
  none_times x [] none = refl
  none_times x (y ∷ xs) none = (λ i. only (none.0 i) (pos 1) +ℤ none_times x xs none.1 i)

  -- a set holds each of its elements once
  pub times-set : (xs : List E) → IsDistinct eq xs → (q : E) → times eq xs q ≡ only (list_any (eq q) xs) (pos 1)
  unfolding IsDistinct
  times-set [] set q = refl
  times-set (x ∷ xs) set q = by (eq q x) refl (times-set xs set.1 q)
    where
      by : (b : Bool) → eq q x ≡ b → times eq xs q ≡ only (list_any (eq q) xs) (pos 1) → only b (pos 1) +ℤ times eq xs q ≡ only (b || list_any (eq q) xs) (pos 1)
      by true is rest =
          let none = subst (λ y. times eq xs y ≡ pos 0) (sym ((same q x).0 is)) (none_times x xs set.0) in
          omega (arith, ints)
      by false is rest = omega (arith, ints)

  one_changed : (is_x there comes : Bool) → (is_x ≡ true → there ≡ not comes) → only (cond is_x comes there) (pos 1) ≡ only there (pos 1) +ℤ (only is_x (cond comes (pos 1) (negsuc 0)) +ℤ pos 0)
  one_changed true true true h = absurd (true≢false (h refl))
  one_changed true true false h = refl
  one_changed true false true h = refl
  one_changed true false false h = absurd (true≢false (sym (h refl)))
  one_changed false true comes h = refl
  one_changed false false comes h = refl

  -- one element comes into a set or goes out of it
  pub set-changed : (before after : List E) (x : E) (comes : Bool) (by : ℤ) → IsDistinct eq before → IsDistinct eq after → ((q : E) → list_any (eq q) after ≡ cond (eq x q) comes (list_any (eq q) before))
      → list_any (eq x) before ≡ not comes → by ≡ cond comes (pos 1) (negsuc 0) → IsChanged eq before ((x, by) ∷ []) after
  set-changed before after x comes by set set_after is there by_is q =
      times-set after set_after q
      ∙ (ap (λ b. only b (pos 1)) (is q)
      ∙ (one_changed (eq x q) (list_any (eq q) before) comes (λ e. ap (λ y. list_any (eq y) before) (sym ((same x q).0 e)) ∙ there)
      ∙ (λ i. sym (times-set before set q) i +ℤ (only (turned same x q i) (sym by_is i) +ℤ pos 0))))

  apart_weight : (x : E) (es : List (E × ℤ)) → AllByRecursion (λ y. eq x y ≡ false) (keys_of es) → weight eq es x ≡ pos 0
  apart_weight x [] apart = refl
  apart_weight x (e ∷ es) apart = (λ i. only (apart.0 i) e.1 +ℤ apart_weight x es apart.1 i)

  of_entries : (P : E → Type 0) (es : List (E × ℤ)) → AllByRecursion P (keys_of es) → AllByRecursion (λ (e : E × ℤ). P e.0) es
  of_entries P [] all = tt
  of_entries P (e ∷ es) all = (all.0, of_entries P es all.1)

  first_weight : (e : E × ℤ) (es : List (E × ℤ)) → AllByRecursion (λ y. eq e.0 y ≡ false) (keys_of es) → weight eq (e ∷ es) e.0 ≡ e.1
  first_weight e es apart =
      let own = ap (λ b. only b e.1) (itself same e.0) in
      let others = apart_weight e.0 es apart in
      omega (arith, ints)

  later_weight : (e : E × ℤ) (es : List (E × ℤ)) (x : E) → eq e.0 x ≡ false → weight eq (e ∷ es) x ≡ weight eq es x
  later_weight e es x apart =
      let none = ap (λ b. only b e.1) (turned same x e.0 ∙ apart) in
      omega (arith, ints)

  -- an entry's count is what distinct entries hold of it, and those behind hold nothing of it
  pub entry_weight : (es : List (E × ℤ)) (i : ℕ) (x : E) (by : ℤ) (rest : List (E × ℤ)) → IsDistinct eq (keys_of es) → drop i es ≡ (x, by) ∷ rest → (weight eq es x ≡ by) × (weight eq rest x ≡ pos 0)
  unfolding IsDistinct
  entry_weight [] i x by rest distinct is = absurd (dropped_none i (x, by) rest is)
  entry_weight (e ∷ es) zero x by rest distinct is =
      subst
      (λ r. (weight eq (e ∷ es) x ≡ by) × (weight eq r x ≡ pos 0))
      (ap (drop 1) is)
      (subst
      (λ (p : E × ℤ). (weight eq (e ∷ es) p.0 ≡ p.1) × (weight eq es p.0 ≡ pos 0))
      (ap (λ l. get_or l 0 e) is)
      (first_weight e es distinct.0, apart_weight e.0 es distinct.0))
  entry_weight (e ∷ es) (suc i) x by rest distinct is =
      let apart = at_dropped (λ (d : E × ℤ). eq e.0 d.0 ≡ false) es i (x, by) rest (of_entries (λ y. eq e.0 y ≡ false) es distinct.0) is in
      let later = entry_weight es i x by rest distinct.1 is in
      (later_weight e es x apart ∙ later.0, later.1)

  -- a change that may be made at first may be made when it comes to its turn
  pub in_turn : (before now : List E) (es : List (E × ℤ)) (i : ℕ) (x : E) (by : ℤ) (rest : List (E × ℤ)) → AreChanges eq es → drop i es ≡ (x, by) ∷ rest
      → ((q : E) → (weight eq es q ≡ pos 0) ⊎ (((weight eq es q ≡ pos 1) × (times eq before q ≡ pos 0)) ⊎ ((weight eq es q ≡ negsuc 0) × (times eq before q ≡ pos 1))))
      → ((q : E) → times eq now q +ℤ weight eq (drop i es) q ≡ times eq before q +ℤ weight eq es q)
      → ((by ≡ pos 1) × (times eq now x ≡ pos 0)) ⊎ ((by ≡ negsuc 0) × (times eq now x ≡ pos 1))
  in_turn before now es i x by rest changes is allowed so_far =
      let whole = entry_weight es i x by rest changes.distinct is in
      let counted = at_dropped (λ (e : E × ℤ). e.1 ≢ pos 0) es i (x, by) rest (recursion_from_All (λ (e : E × ℤ). e.1 ≢ pos 0) es changes.counted) is in
      let own = ap (λ b. only b by) (itself same x) in
      let left = ap (λ l. weight eq l x) is in
      let known = so_far x in
      let same_times : times eq now x ≡ times eq before x = omega (arith, ints, whole.0, whole.1, own, left, known) in
      turn_of (weight eq es x) by (times eq now x) (times eq before x) whole.0 same_times counted (allowed x)
