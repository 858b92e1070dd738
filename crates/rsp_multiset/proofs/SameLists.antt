-- Lists that are one multiset: what is made of them by words without an order is one multiset too.
use Rattle.std.proofs.Common.{◌≡◌, suc, Bool, true, false, true≢false, not, ◌||◌, cond, nat_lt, List, [], ◌∷◌, ◌++◌, ℤ, pos, ◌+ℤ◌, length, map, filter, refl, sym, ap, ◌∙◌, arith, Decides}
use Rattle.std.specs.List.{list_any, filter_map}
use Rattle.std.specs.Option.{option_to_list}
use Rattle.std.proofs.lemmas.Bool.Decides.{nat_tests}
use Rattle.std.proofs.lemmas.Int.{ints}
use Rattle.rsp_multiset.specs.Rows.{Cells, row_eq}
use Rattle.rsp_multiset.specs.RowLists.{merged_pair, merged_pairs, has_partner, with_partner, without_partner, each_once}
use Rattle.rsp_multiset.specs.RowSame.{row_decides}
use Rattle.rsp_multiset.specs.Weights.{only, sum_z, times, IsSameMultiset}
use Rattle.rsp_multiset.proofs.Linear.{length-same, sum-same}
use Rattle.rsp_multiset.proofs.Sums.{sum_z-alike, sum_z-none, sum_z-append, sum_z-map, sum_z-filter, sum_z-filter_map, sum_z-flat_map}

pub filter-alike : {X : Type 0} (p r : X → Bool) → ((x : X) → p x ≡ r x) → (xs : List X) → filter p xs ≡ filter r xs
filter-alike p r alike [] = refl
filter-alike p r alike (x ∷ xs) = (λ i. cond (alike x i) (x ∷ filter-alike p r alike xs i) (filter-alike p r alike xs i))

-- some element passes where at least one is left by the filter
pub any-left : {X : Type 0} (p : X → Bool) (xs : List X) → list_any p xs ≡ nat_lt 0 (length (filter p xs))
any-left p [] = refl
any-left p (x ∷ xs) = by (p x) (any-left p xs)
  where
    by : (b : Bool) → list_any p xs ≡ nat_lt 0 (length (filter p xs)) → (b || list_any p xs) ≡ nat_lt 0 (length (cond b (x ∷ filter p xs) (filter p xs)))
    by true rest = let more : nat_lt 0 (suc (length (filter p xs))) ≡ true = grind (arith, nat_tests) in sym more
    by false rest = rest

module _ {E : Type 0} {eq : E → E → Bool} (same : (x y : E) → Decides (eq x y) (x ≡ y)) where
  pub same-map : {Y : Type 0} (eq' : Y → Y → Bool) (f : E → Y) (xs ys : List E) → IsSameMultiset eq xs ys → IsSameMultiset eq' (map f xs) (map f ys)
  same-map eq' f xs ys alike q =
      sum_z-map (λ y. only (eq' q y) (pos 1)) f xs
      ∙ (sum-same same (λ x. only (eq' q (f x)) (pos 1)) xs ys alike
      ∙ sym (sum_z-map (λ y. only (eq' q y) (pos 1)) f ys))

  pub same-append : (xs xs' ys ys' : List E) → IsSameMultiset eq xs xs' → IsSameMultiset eq ys ys' → IsSameMultiset eq (xs ++ ys) (xs' ++ ys')
  same-append xs xs' ys ys' left right q =
      sum_z-append (λ y. only (eq q y) (pos 1)) xs ys
      ∙ ((λ i. left q i +ℤ right q i) ∙ sym (sum_z-append (λ y. only (eq q y) (pos 1)) xs' ys'))

  pub same-filter : (p : E → Bool) (xs ys : List E) → IsSameMultiset eq xs ys → IsSameMultiset eq (filter p xs) (filter p ys)
  same-filter p xs ys alike q =
      sum_z-filter (λ y. only (eq q y) (pos 1)) p xs
      ∙ (sum-same same (λ y. only (p y) (only (eq q y) (pos 1))) xs ys alike
      ∙ sym (sum_z-filter (λ y. only (eq q y) (pos 1)) p ys))

  pub same-any : (p : E → Bool) (xs ys : List E) → IsSameMultiset eq xs ys → list_any p xs ≡ list_any p ys
  same-any p xs ys alike =
      any-left p xs
      ∙ (ap (nat_lt 0) (length-same same (filter p xs) (filter p ys) (same-filter p xs ys alike)) ∙ sym (any-left p ys))

  other_kept : (x q : E) → eq q x ≡ true → (y : E) → only (not (eq x y)) (only (eq q y) (pos 1)) ≡ pos 0
  other_kept x q is y = by (eq x y) (eq q y) refl refl
    where
      by : (b c : Bool) → eq x y ≡ b → eq q y ≡ c → only (not b) (only c (pos 1)) ≡ pos 0
      by true c h k = refl
      by false false h k = refl
      by false true h k = absurd (true≢false (sym ((same x y).1 (sym ((same q x).0 is) ∙ (same q y).0 k)) ∙ h))

  itself_kept : (x q : E) → eq q x ≡ false → (y : E) → only (not (eq x y)) (only (eq q y) (pos 1)) ≡ only (eq q y) (pos 1)
  itself_kept x q apart y = by (eq x y) (eq q y) refl refl
    where
      by : (b c : Bool) → eq x y ≡ b → eq q y ≡ c → only (not b) (only c (pos 1)) ≡ only c (pos 1)
      by false c h k = refl
      by true false h k = refl
      by true true h k = absurd (true≢false (sym ((same q x).1 ((same q y).0 k ∙ sym ((same x y).0 h))) ∙ apart))

  -- 'once' holds each element once
  pub once-times : (xs : List E) (q : E) → times eq (each_once eq xs) q ≡ only (list_any (eq q) xs) (pos 1)
  once-times [] q = refl
  once-times (x ∷ xs) q = by (eq q x) refl (once-times xs q)
    where
      by : (b : Bool) → eq q x ≡ b → times eq (each_once eq xs) q ≡ only (list_any (eq q) xs) (pos 1)
          → only b (pos 1) +ℤ times eq (filter (λ y. not (eq x y)) (each_once eq xs)) q ≡ only (b || list_any (eq q) xs) (pos 1)
      by true is others =
          let none = sum_z-filter (λ y. only (eq q y) (pos 1)) (λ y. not (eq x y)) (each_once eq xs) ∙ sum_z-none _ (other_kept x q is) (each_once eq xs) in
          omega (arith, ints, none)
      by false apart others =
          let all = sum_z-filter (λ y. only (eq q y) (pos 1)) (λ y. not (eq x y)) (each_once eq xs) ∙ sum_z-alike _ _ (itself_kept x q apart) (each_once eq xs) in
          omega (arith, ints, all, others)

  pub same-once : (xs ys : List E) → IsSameMultiset eq xs ys → IsSameMultiset eq (each_once eq xs) (each_once eq ys)
  same-once xs ys alike q =
      once-times xs q ∙ (ap (λ b. only b (pos 1)) (same-any (eq q) xs ys alike) ∙ sym (once-times ys q))

module _ {V : Type 0} {eq : V → V → Bool} (same : (x y : V) → Decides (eq x y) (x ≡ y)) (test : Cells V → Cells V → Bool) where
  abbrev SameRows : List (Cells V) → List (Cells V) → Type 0
  SameRows rows others = IsSameMultiset (row_eq eq) rows others

  -- how often q is among the pairs of one left row
  abbrev paired_with : Cells V → List (Cells V) → Cells V → ℤ
  paired_with q rights left = times (row_eq eq) (filter_map (merged_pair test left) rights) q

  same-paired : (q left : Cells V) (rights others : List (Cells V)) → SameRows rights others → paired_with q rights left ≡ paired_with q others left
  same-paired q left rights others alike =
      let counted = λ (row : Cells V). only (row_eq eq q row) (pos 1) in
      sum_z-filter_map counted (merged_pair test left) rights
      ∙ (sum-same (row_decides same) (λ right. sum_z counted (option_to_list (merged_pair test left right))) rights others alike
      ∙ sym (sum_z-filter_map counted (merged_pair test left) others))

  pub same-pairs : (lefts lefts' rights rights' : List (Cells V)) → SameRows lefts lefts' → SameRows rights rights' → SameRows (merged_pairs test lefts rights) (merged_pairs test lefts' rights')
  same-pairs lefts lefts' rights rights' same_left same_right q =
      let counted = λ (row : Cells V). only (row_eq eq q row) (pos 1) in
      sum_z-flat_map counted (λ left. filter_map (merged_pair test left) rights) lefts
      ∙ (sum-same (row_decides same) (paired_with q rights) lefts lefts' same_left
      ∙ (sum_z-alike (paired_with q rights) (paired_with q rights') (λ left. same-paired q left rights rights' same_right) lefts'
      ∙ sym (sum_z-flat_map counted (λ left. filter_map (merged_pair test left) rights') lefts')))

  same-partners : (left : Cells V) (rights rights' : List (Cells V)) → SameRows rights rights' → has_partner test rights left ≡ has_partner test rights' left
  same-partners left rights rights' alike = same-any (row_decides same) (test left) rights rights' alike

  pub same-with_partner : (lefts lefts' rights rights' : List (Cells V)) → SameRows lefts lefts' → SameRows rights rights' → SameRows (with_partner test lefts rights) (with_partner test lefts' rights')
  same-with_partner lefts lefts' rights rights' same_left same_right q =
      same-filter (row_decides same) (has_partner test rights) lefts lefts' same_left q
      ∙ ap (λ rows. times (row_eq eq) rows q) (filter-alike _ _ (λ left. same-partners left rights rights' same_right) lefts')

  pub same-without_partner : (lefts lefts' rights rights' : List (Cells V)) → SameRows lefts lefts' → SameRows rights rights' → SameRows (without_partner test lefts rights) (without_partner test lefts' rights')
  same-without_partner lefts lefts' rights rights' same_left same_right q =
      same-filter (row_decides same) (λ left. not (has_partner test rights left)) lefts lefts' same_left q
      ∙ ap (λ rows. times (row_eq eq) rows q) (filter-alike _ _ (λ left. ap not (same-partners left rights rights' same_right)) lefts')
