-- Distinct values of a list that changes: one more where a count leaves 0, one less where it comes to 0.
use Rattle.std.proofs.Common.{◌≡◌, ◌≢◌, zero, suc, Bool, true, false, List, [], ◌∷◌, ℤ, pos, negsuc, ◌+ℤ◌, neg_ℤ, map, refl, sym, ap, ◌∙◌, arith, Decides}
use Rattle.std.specs.Cmp.{IsEquivalence}
use Rattle.std.specs.List.{IsDistinct, list_any}
use Rattle.std.specs.Map.{keys_of}
use Rattle.std.proofs.lemmas.Int.{ints}
use Rattle.std.proofs.lemmas.Map.Entries.{none_past_head}
use Rattle.rsp_multiset.specs.RowLists.{each_once}
use Rattle.rsp_multiset.specs.Shown.{AreToldApart, weight_shown, IsChangedShown}
use Rattle.rsp_multiset.specs.Weights.{only, weight, times, IsChanged}
use Rattle.rsp_multiset.proofs.Changing.{times-absent, times-present}
use Rattle.rsp_multiset.proofs.Held.{weight-none}
use Rattle.rsp_multiset.proofs.SameLists.{once-times}
use Rattle.rsp_multiset.proofs.Shown.{AreKnown, weight_shown-made}

-- 1 for what is there, whatever its count, and 0 for what isn't
abbrev pub presence : ℤ → ℤ
presence (pos zero) = pos 0
presence (pos (suc n)) = pos 1
presence (negsuc n) = pos 1

-- what a count that changes by so much adds to the number of distinct values
abbrev pub crossing : ℤ → ℤ → ℤ
crossing before by = presence (before +ℤ by) +ℤ neg_ℤ (presence before)

-- the entries with what each adds, from the counts before
abbrev pub crossings : {E : Type 0} → (E → ℤ) → List (E × ℤ) → List (E × ℤ)
crossings {E} before entries = map {B = E × ℤ} (λ e. (e.0, crossing (before e.0) e.1)) entries

pub presence-one : (n : ℤ) → n ≢ pos 0 → presence n ≡ pos 1
presence-one (pos zero) h = absurd (h refl)
presence-one (pos (suc n)) h = refl
presence-one (negsuc n) h = refl

pub crossing-nothing : (n : ℤ) → crossing n (pos 0) ≡ pos 0
crossing-nothing n =
    let same : n +ℤ pos 0 ≡ n = omega (arith, ints) in
    let alike = ap presence same in
    omega (arith, ints)

pub crossing-comes : (n by : ℤ) → n ≡ pos 0 → n +ℤ by ≢ pos 0 → crossing n by ≡ pos 1
crossing-comes n by none some =
    let after = presence-one (n +ℤ by) some in
    let before = ap presence none in
    omega (arith, ints)

pub crossing-goes : (n by : ℤ) → n ≢ pos 0 → n +ℤ by ≡ pos 0 → crossing n by ≡ negsuc 0
crossing-goes n by some none =
    let before = presence-one n some in
    let after = ap presence none in
    omega (arith, ints)

pub crossing-stays : (n by : ℤ) → n ≢ pos 0 → n +ℤ by ≢ pos 0 → crossing n by ≡ pos 0
crossing-stays n by some others =
    let before = presence-one n some in
    let after = presence-one (n +ℤ by) others in
    omega (arith, ints)

module _ {E : Type 0} {eq : E → E → Bool} (laws : IsEquivalence eq) (same : (x y : E) → Decides (eq x y) (x ≡ y)) where
  -- distinct entries with a number made of value and count, where the count 0 makes 0
  pub weight-made : (f : E → ℤ → ℤ) → ((x : E) → f x (pos 0) ≡ pos 0) → (es : List (E × ℤ)) → IsDistinct eq (keys_of es)
      → (q : E) → weight eq (map {B = E × ℤ} (λ e. (e.0, f e.0 e.1)) es) q ≡ f q (weight eq es q)
  unfolding IsDistinct
  weight-made f none [] d q = sym (none q)
  weight-made f none (e ∷ es) d q =
      by (eq q e.0) (weight-made f none es d.1 q) (λ h. weight-none eq q es (none_past_head laws q e es d h)) refl
    where
      made : List (E × ℤ)
      made = map {B = E × ℤ} (λ e. (e.0, f e.0 e.1)) es

      by : (b : Bool) → weight eq made q ≡ f q (weight eq es q) → (eq q e.0 ≡ true → weight eq es q ≡ pos 0) → eq q e.0 ≡ b → only b (f e.0 e.1) +ℤ weight eq made q ≡ f q (only b e.1 +ℤ weight eq es q)
      by true rest z h =
          let w = z h in
          let r = rest ∙ ap (f q) w ∙ none q in
          let k : e.1 +ℤ weight eq es q ≡ e.1 = omega (arith, ints) in
          let s : f e.0 e.1 +ℤ weight eq made q ≡ f e.0 e.1 = omega (arith, ints) in
          s ∙ ap (λ x. f x e.1) (sym ((same q e.0).0 h)) ∙ ap (f q) (sym k)
      by false rest z h =
          let k : pos 0 +ℤ weight eq es q ≡ weight eq es q = omega (arith, ints) in
          let s : pos 0 +ℤ weight eq made q ≡ weight eq made q = omega (arith, ints) in
          s ∙ rest ∙ ap (f q) (sym k)

  pub once-presence : (xs : List E) (q : E) → times eq (each_once eq xs) q ≡ presence (times eq xs q)
  once-presence xs q = once-times same xs q ∙ by (list_any (eq q) xs) refl
    where
      by : (b : Bool) → list_any (eq q) xs ≡ b → only b (pos 1) ≡ presence (times eq xs q)
      by true h =
          let some = times-present eq xs q h in
          sym (presence-one (times eq xs q) (λ none. let never : ⊥ = omega (arith, ints) in never))
      by false h = sym (ap presence (times-absent eq xs q h))

  -- how often the distinct values of a list hold one of which the list holds so many more
  pub once-more : (xs ys : List E) (q : E) (by : ℤ) → times eq ys q ≡ times eq xs q +ℤ by → times eq (each_once eq ys) q ≡ times eq (each_once eq xs) q +ℤ crossing (times eq xs q) by
  once-more xs ys q by changed =
      let before = once-presence xs q in
      let after = once-presence ys q ∙ ap presence changed in
      omega (arith, ints)

  pub once-changed : (xs ys : List E) (es : List (E × ℤ)) → IsDistinct eq (keys_of es) → IsChanged eq xs es ys → IsChanged eq (each_once eq xs) (crossings (times eq xs) es) (each_once eq ys)
  once-changed xs ys es d changed q =
      let step = once-more xs ys q (weight eq es q) (changed q) in
      let made = weight-made (λ x n. crossing (times eq xs x) n) (λ x. crossing-nothing (times eq xs x)) es d q in
      omega (arith, ints)

-- the same by what the entries show, where known values are told apart
module _ {E F : Type 0} {test : E → E → Bool} (laws : IsEquivalence test) (same : (x y : E) → Decides (test x y) (x ≡ y)) {eq : F → F → Bool} (laws' : IsEquivalence eq)
    (same' : (x y : F) → Decides (eq x y) (x ≡ y)) {knows : E → Type 0} {shown : E → F} (apart : AreToldApart knows shown) where
  pub once-changed_shown : (xs ys : List F) (es : List (E × ℤ)) → IsDistinct test (keys_of es) → AreKnown knows es → IsChangedShown eq shown xs es ys
      → IsChangedShown eq shown (each_once eq xs) (crossings (λ x. times eq xs (shown x)) es) (each_once eq ys)
  once-changed_shown xs ys es d known changed q =
      let step = once-more laws' same' xs ys q (weight_shown eq shown es q) (changed q) in
      let made = weight_shown-made laws same same' {knows = knows} apart (λ x n. crossing (times eq xs x) n) (λ x. crossing-nothing (times eq xs x)) es d known q in
      omega (arith, ints)
