-- A sum over a multiset depends on its weights alone: not on the order of a list or of entries, nor on how entries are split.
use Rattle.std.proofs.Common.{◌≡◌, ◌≤◌, ℕ, zero, suc, Bool, true, false, not, cond, List, [], ◌∷◌, ◌++◌, ℤ, pos, ◌+ℤ◌, ◌*ℤ◌, neg_ℤ, length, map, filter, refl, sym, ap, subst, ◌∙◌, arith, Decides}
use Rattle.std.proofs.lemmas.Int.{ints}
use Rattle.std.proofs.Math.IntN.{zero-*ℤ}
use Rattle.rsp_multiset.specs.Weights.{sum_z, only, weight, total, times, negation, cardinality, IsChanged}
use Rattle.rsp_multiset.proofs.Whole.{+ℤ-*ℤ, neg-*ℤ, one-*ℤ, times-one}
use Rattle.rsp_multiset.proofs.Held.{weight-append, weight-negated}
use Rattle.rsp_multiset.proofs.Sums.{sum_z-append, sum_z-alike, length-sum}

-- each value of a list as an entry with the count 1
abbrev pub entries_of : {E : Type 0} → List E → List (E × ℤ)
entries_of {E} xs = map {B = E × ℤ} (λ x. (x, pos 1)) xs

module _ {E : Type 0} where
  pub total-append : (f : E → ℤ) (es ds : List (E × ℤ)) → total f (es ++ ds) ≡ total f es +ℤ total f ds
  total-append f = sum_z-append (λ e. e.1 *ℤ f e.0)

  pub total-negated : (f : E → ℤ) (es : List (E × ℤ)) → total f (negation es) ≡ neg_ℤ (total f es)
  total-negated f [] = refl
  total-negated f (e ∷ es) = let h = total-negated f es in let k = neg-*ℤ e.1 (f e.0) in omega (arith, ints)

  pub total-entries_of : (f : E → ℤ) (xs : List E) → total f (entries_of xs) ≡ sum_z f xs
  total-entries_of f [] = refl
  total-entries_of f (x ∷ xs) = (λ i. one-*ℤ (f x) i +ℤ total-entries_of f xs i)

  pub weight-entries_of : (eq : E → E → Bool) (xs : List E) (q : E) → weight eq (entries_of xs) q ≡ times eq xs q
  weight-entries_of eq [] q = refl
  weight-entries_of eq (x ∷ xs) q = ap (λ s. only (eq q x) (pos 1) +ℤ s) (weight-entries_of eq xs q)

  pub cardinality-total : (es : List (E × ℤ)) → cardinality es ≡ total (λ _. pos 1) es
  cardinality-total es = sum_z-alike (λ e. e.1) (λ e. e.1 *ℤ pos 1) (λ e. sym (times-one e.1)) es

module _ {E : Type 0} {eq : E → E → Bool} (same : (x y : E) → Decides (eq x y) (x ≡ y)) where
  pub itself : (x : E) → eq x x ≡ true
  itself x = (same x x).1 refl

  pub turned : (x y : E) → eq x y ≡ eq y x
  turned x y = by (eq x y) (eq y x) refl refl
    where
      by : (b c : Bool) → eq x y ≡ b → eq y x ≡ c → b ≡ c
      by true c h k = sym ((same y x).1 (sym ((same x y).0 h))) ∙ k
      by false true h k = sym h ∙ (same x y).1 (sym ((same y x).0 k))
      by false false h k = refl

  abbrev without : E → List (E × ℤ) → List (E × ℤ)
  without x es = filter (λ (e : E × ℤ). not (eq x e.0)) es

  without-length : (x : E) (es : List (E × ℤ)) → length (without x es) ≤ length es
  without-length x [] = omega arith
  without-length x (e ∷ es) = by (eq x e.0) (without-length x es)
    where
      by : (b : Bool) → length (without x es) ≤ length es → length (cond (not b) (e ∷ without x es) (without x es)) ≤ suc (length es)
      by true h = omega arith
      by false h = omega arith

  without-self : (x : E) (es : List (E × ℤ)) → weight eq (without x es) x ≡ pos 0
  without-self x [] = refl
  without-self x (e ∷ es) = by (eq x e.0) refl (without-self x es)
    where
      by : (b : Bool) → eq x e.0 ≡ b → weight eq (without x es) x ≡ pos 0 → weight eq (cond (not b) (e ∷ without x es) (without x es)) x ≡ pos 0
      by true h rest = rest
      by false h rest = (λ i. only (h i) e.1 +ℤ rest i)

  without-other : (x q : E) → eq x q ≡ false → (es : List (E × ℤ)) → weight eq (without x es) q ≡ weight eq es q
  without-other x q apart [] = refl
  without-other x q apart (e ∷ es) = by (eq x e.0) refl (without-other x q apart es)
    where
      by : (b : Bool) → eq x e.0 ≡ b → weight eq (without x es) q ≡ weight eq es q
          → weight eq (cond (not b) (e ∷ without x es) (without x es)) q ≡ only (eq q e.0) e.1 +ℤ weight eq es q
      by true h rest =
          let k = turned q e.0 ∙ ap (λ z. eq z q) (sym ((same x e.0).0 h)) ∙ apart in
          let none = ap (λ b. only b e.1) k in
          omega (arith, ints)
      by false h rest = ap (λ s. only (eq q e.0) e.1 +ℤ s) rest

  split_off : (f : E → ℤ) (x : E) (es : List (E × ℤ)) → total f es ≡ weight eq es x *ℤ f x +ℤ total f (without x es)
  split_off f x [] = sym (ap (λ z. z +ℤ pos 0) (zero-*ℤ (f x)))
  split_off f x (e ∷ es) = by (eq x e.0) refl (split_off f x es)
    where
      by : (b : Bool) → eq x e.0 ≡ b → total f es ≡ weight eq es x *ℤ f x +ℤ total f (without x es)
          → e.1 *ℤ f e.0 +ℤ total f es ≡ (only b e.1 +ℤ weight eq es x) *ℤ f x +ℤ total f (cond (not b) (e ∷ without x es) (without x es))
      by true h rest =
          let a = +ℤ-*ℤ e.1 (weight eq es x) (f x) in
          let k = ap (λ z. e.1 *ℤ f z) ((same x e.0).0 h) in
          omega (arith, ints)
      by false h rest =
          let a = +ℤ-*ℤ (pos 0) (weight eq es x) (f x) in
          let z = zero-*ℤ (f x) in
          omega (arith, ints)

  -- where nothing weighs anything, nothing adds up
  zero-total : (f : E → ℤ) (n : ℕ) (es : List (E × ℤ)) → length es ≤ n → ((q : E) → weight eq es q ≡ pos 0) → total f es ≡ pos 0
  zero-total f n [] short none = refl
  zero-total f zero (e ∷ es) short none = absurd (omega arith)
  zero-total f (suc n) (e ∷ es) short none =
      let split = split_off f e.0 (e ∷ es) in
      let first = ap (λ w. w *ℤ f e.0) (none e.0) ∙ zero-*ℤ (f e.0) in
      let shorter = ap (λ b. length (cond (not b) (e ∷ without e.0 es) (without e.0 es))) (itself e.0) in
      let bound = without-length e.0 es in
      let rest = zero-total f n (without e.0 (e ∷ es)) (omega arith) (λ q. by q (eq e.0 q) refl) in
      omega (arith, ints)
    where
      by : (q : E) (b : Bool) → eq e.0 q ≡ b → weight eq (without e.0 (e ∷ es)) q ≡ pos 0
      by q true h = subst (λ z. weight eq (without e.0 (e ∷ es)) z ≡ pos 0) ((same e.0 q).0 h) (without-self e.0 (e ∷ es))
      by q false h = without-other e.0 q h (e ∷ es) ∙ none q

  pub total-same : (f : E → ℤ) (es ds : List (E × ℤ)) → ((q : E) → weight eq es q ≡ weight eq ds q) → total f es ≡ total f ds
  total-same f es ds alike =
      let none : (q : E) → weight eq (es ++ negation ds) q ≡ pos 0 = λ q. weight-append eq es (negation ds) q ∙ (let a = alike q in let b = weight-negated eq ds q in omega (arith, ints)) in
      let zero = zero-total f (length (es ++ negation ds)) (es ++ negation ds) (omega arith) none in
      let split = total-append f es (negation ds) in
      let turn = total-negated f ds in
      omega (arith, ints)

  pub sum-changed : (f : E → ℤ) (before after : List E) (es : List (E × ℤ)) → IsChanged eq before es after → sum_z f after ≡ sum_z f before +ℤ total f es
  sum-changed f before after es changed_rows =
      sym (total-entries_of f after)
      ∙ total-same f (entries_of after) (entries_of before ++ es) (λ q. weight-entries_of eq after q ∙ changed_rows q ∙ ap (λ s. s +ℤ weight eq es q) (sym (weight-entries_of eq before q)) ∙ sym (weight-append eq (entries_of before) es q))
      ∙ total-append f (entries_of before) es
      ∙ ap (λ s. s +ℤ total f es) (total-entries_of f before)

  pub sum-same : (f : E → ℤ) (xs ys : List E) → ((q : E) → times eq xs q ≡ times eq ys q) → sum_z f xs ≡ sum_z f ys
  sum-same f xs ys alike =
      sym (total-entries_of f xs)
      ∙ total-same f (entries_of xs) (entries_of ys) (λ q. weight-entries_of eq xs q ∙ alike q ∙ sym (weight-entries_of eq ys q))
      ∙ total-entries_of f ys

  -- entries that hold what a list holds
  pub total-held : (f : E → ℤ) (es : List (E × ℤ)) (xs : List E) → ((q : E) → weight eq es q ≡ times eq xs q) → total f es ≡ sum_z f xs
  total-held f es xs held = total-same f es (entries_of xs) (λ q. held q ∙ sym (weight-entries_of eq xs q)) ∙ total-entries_of f xs

  pub cardinality-held : (es : List (E × ℤ)) (xs : List E) → ((q : E) → weight eq es q ≡ times eq xs q) → cardinality es ≡ pos (length xs)
  cardinality-held es xs held = cardinality-total es ∙ total-held (λ _. pos 1) es xs held ∙ length-sum xs

  pub length-same : (xs ys : List E) → ((q : E) → times eq xs q ≡ times eq ys q) → length xs ≡ length ys
  length-same xs ys alike =
      let e = sym (length-sum xs) ∙ sum-same (λ _. pos 1) xs ys alike ∙ length-sum ys in
      omega (arith, ints)

  pub cardinality-same : (es ds : List (E × ℤ)) → ((q : E) → weight eq es q ≡ weight eq ds q) → cardinality es ≡ cardinality ds
  cardinality-same es ds alike = cardinality-total es ∙ total-same (λ _. pos 1) es ds alike ∙ sym (cardinality-total ds)
