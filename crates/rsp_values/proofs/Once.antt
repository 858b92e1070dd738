-- Elements that come into a list one by one, each once.
use Rattle.std.proofs.Common.{◌≡◌, Bool, true, false, not, ◌||◌, cond, List, [], ◌∷◌, ◌++◌, filter, refl, sym, ap, ◌∙◌, Decides, append_assoc}
use Rattle.std.specs.List.{list_any}
use Rattle.std.proofs.lemmas.List.{append-nil}
use Rattle.rsp_multiset.specs.RowLists.{each_once}
use Rattle.rsp_multiset.proofs.Linear.{turned}

-- the list, and behind it each other element once
abbrev pub once_onto : {E : Type 0} → (E → E → Bool) → List E → List E → List E
once_onto eq seen xs = seen ++ filter (λ y. not (list_any (eq y) seen)) (each_once eq xs)

filter-all : {X : Type 0} (xs : List X) → filter (λ _. true) xs ≡ xs
filter-all [] = refl
filter-all (x ∷ xs) = ap (λ ys. x ∷ ys) (filter-all xs)

any-append : {X : Type 0} (p : X → Bool) (xs ys : List X) → list_any p (xs ++ ys) ≡ (list_any p xs || list_any p ys)
any-append p [] ys = refl
any-append p (x ∷ xs) ys = by (p x) (any-append p xs ys)
  where
    by : (b : Bool) → list_any p (xs ++ ys) ≡ (list_any p xs || list_any p ys) → (b || list_any p (xs ++ ys)) ≡ ((b || list_any p xs) || list_any p ys)
    by true rest = refl
    by false rest = rest

-- two filters are one
filter-twice : {X : Type 0} (p r s : X → Bool) → ((x : X) → cond (r x) (p x) false ≡ s x) → (xs : List X) → filter p (filter r xs) ≡ filter s xs
filter-twice p r s both [] = refl
filter-twice p r s both (x ∷ xs) = by (r x) (p x) (s x) refl (both x) (filter-twice p r s both xs)
  where
    by : (b c d : Bool) → p x ≡ c → cond b c false ≡ d → filter p (filter r xs) ≡ filter s xs → filter p (cond b (x ∷ filter r xs) (filter r xs)) ≡ cond d (x ∷ filter s xs) (filter s xs)
    by true c d is same rest = ap (λ e. cond e (x ∷ filter p (filter r xs)) (filter p (filter r xs))) (is ∙ same) ∙ ap (λ ys. cond d (x ∷ ys) ys) rest
    by false c d is same rest = rest ∙ ap (λ e. cond e (x ∷ filter s xs) (filter s xs)) same

module _ {E : Type 0} {eq : E → E → Bool} (same : (x y : E) → Decides (eq x y) (x ≡ y)) where
  pub once_from_none : (xs : List E) → once_onto eq [] xs ≡ each_once eq xs
  once_from_none xs = filter-all (each_once eq xs)

  pub once_at_end : (seen : List E) → once_onto eq seen [] ≡ seen
  once_at_end seen = append-nil seen

  -- an element that is there already stays out, and any other goes last
  seen_stays : (seen : List E) (x y : E) → list_any (eq x) seen ≡ true → cond (not (eq x y)) (not (list_any (eq y) seen)) false ≡ not (list_any (eq y) seen)
  seen_stays seen x y there = by (eq x y) refl
    where
      by : (b : Bool) → eq x y ≡ b → cond (not b) (not (list_any (eq y) seen)) false ≡ not (list_any (eq y) seen)
      by true is = sym (ap not (ap (λ z. list_any (eq z) seen) (sym ((same x y).0 is)) ∙ there))
      by false is = refl

  new_comes : (seen : List E) (x y : E) → cond (not (eq x y)) (not (list_any (eq y) seen)) false ≡ not (list_any (eq y) (seen ++ x ∷ []))
  new_comes seen x y =
      by (eq x y) (list_any (eq y) seen)
      ∙ ap not ((λ i. list_any (eq y) seen || (turned same x y i || false)) ∙ sym (any-append (eq y) seen (x ∷ [])))
    where
      by : (b c : Bool) → cond (not b) (not c) false ≡ not (c || (b || false))
      by true true = refl
      by true false = refl
      by false true = refl
      by false false = refl

  pub next_once : (seen : List E) (x : E) (rest : List E) → once_onto eq (cond (list_any (eq x) seen) seen (seen ++ x ∷ [])) rest ≡ once_onto eq seen (x ∷ rest)
  next_once seen x rest = by (list_any (eq x) seen) refl
    where
      by : (b : Bool) → list_any (eq x) seen ≡ b
          → once_onto eq (cond b seen (seen ++ x ∷ [])) rest
          ≡ seen ++ cond (not b) (x ∷ filter (λ y. not (list_any (eq y) seen)) (filter (λ y. not (eq x y)) (each_once eq rest))) (filter (λ y. not (list_any (eq y) seen)) (filter (λ y. not (eq x y)) (each_once eq rest)))
      by true there =
          ap (λ ys. seen ++ ys) (sym (filter-twice (λ y. not (list_any (eq y) seen)) (λ y. not (eq x y)) (λ y. not (list_any (eq y) seen)) (λ y. seen_stays seen x y there) (each_once eq rest)))
      by false new =
          append_assoc seen (x ∷ []) (filter (λ y. not (list_any (eq y) (seen ++ x ∷ []))) (each_once eq rest))
          ∙ ap (λ ys. seen ++ x ∷ ys) (sym (filter-twice (λ y. not (list_any (eq y) seen)) (λ y. not (eq x y)) (λ y. not (list_any (eq y) (seen ++ x ∷ []))) (new_comes seen x) (each_once eq rest)))

  pub once_at_start : (seen items xs : List E) → seen ≡ [] → items ≡ xs → once_onto eq seen items ≡ each_once eq xs
  once_at_start seen items xs none is = (λ i. once_onto eq (none i) (is i)) ∙ once_from_none xs

  pub one_more_once : (before after left rest all : List E) (x : E) → left ≡ x ∷ rest → after ≡ cond (list_any (eq x) before) before (before ++ x ∷ []) → once_onto eq before left ≡ all → once_onto eq after rest ≡ all
  one_more_once before after left rest all x is made inv =
      ap (λ seen. once_onto eq seen rest) made ∙ (next_once before x rest ∙ (ap (once_onto eq before) (sym is) ∙ inv))

  pub once_whole : (seen left all : List E) → left ≡ [] → once_onto eq seen left ≡ all → seen ≡ all
  once_whole seen left all none inv = sym (once_at_end seen) ∙ (ap (once_onto eq seen) (sym none) ∙ inv)
