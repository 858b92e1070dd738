-- The least and the greatest of a list: an element that no other goes before.
use Rattle.std.proofs.Common.{◌≡◌, Bool, true, false, true≢false, cond, ◌||◌, List, [], ◌∷◌, refl, sym, ap, subst, ◌∙◌, Decides}
use Rattle.std.specs.Prelude.{Option, Some, None, option_map}
use Rattle.std.specs.Cmp.{IsTotalOrder}
use Rattle.std.specs.List.{list_any, fold, reduce}
use Rattle.std.specs.Option.{option_and_then, option_eq}
use Rattle.std.specs.Ordering.{ord_min, ord_max, ordering_reverse, is_lt, is_gt}
use Rattle.std.specs.declared.cmp.Ordering.{Ordering}
use Rattle.std.specs.declared.cmp.Ordering.TheVariants.{Less, Equal, Greater}
use Rattle.rsp_expr.specs.Errors.{all_values}
use Rattle.rsp_expr.proofs.Extremes.{min_commutes, max_commutes}
use Rattle.rsp_multiset.proofs.Linear.{itself}
use Rattle.rsp_terms.specs.declared.term.Term.{Term}
use Rattle.rsp_terms.specs.Same.{term_eq}

-- a choice of two, where the first that goes before the other is chosen
pub record Chooses {A : Type 0} (Before : A → A → Type 0) (f : A → A → A) : Type 0 where
  pub first : (a b : A) → Before a b → f a b ≡ a
  pub second : (a b : A) → Before b a → f a b ≡ b
  pub either : (k a b : A) → Before k a → Before k b → Before k (f a b)

module _ {A : Type 0} {eq : A → A → Bool} (same : (x y : A) → Decides (eq x y) (x ≡ y)) {Before : A → A → Type 0} {f : A → A → A} (chooses : Chooses Before f) where
  folded-end : (k a : A) (xs : List A) → (eq k a || list_any (eq k) xs) ≡ true → Before k a
      → ((x : A) → list_any (eq x) xs ≡ true → Before k x) → fold f a xs ≡ k
  folded-end k a [] there before others = by (eq k a) refl there
    where
      by : (b : Bool) → eq k a ≡ b → (b || false) ≡ true → a ≡ k
      by true is found = sym ((same k a).0 is)
      by false is found = absurd (true≢false (sym found))
  folded-end k a (x ∷ xs) there before others =
      folded-end k (f a x) xs (by (eq k a) (eq k x) refl refl there) (chooses.either k a x before first)
      (λ y found. others y (behind (eq y x) (list_any (eq y) xs) found))
    where
      first : Before k x
      first = others x (ap (λ b. b || list_any (eq x) xs) (itself same x))

      behind : (b c : Bool) → c ≡ true → (b || c) ≡ true
      behind true c found = refl
      behind false c found = found

      found-first : (y : A) → k ≡ y → (eq k y || list_any (eq k) xs) ≡ true
      found-first y is = ap (λ b. b || list_any (eq k) xs) ((same k y).1 is)

      by : (b c : Bool) → eq k a ≡ b → eq k x ≡ c → (b || (c || list_any (eq k) xs)) ≡ true → (eq k (f a x) || list_any (eq k) xs) ≡ true
      by true c is other found =
          let one : k ≡ a = (same k a).0 is in
          found-first (f a x) (one ∙ sym (chooses.first a x (subst (λ y. Before y x) one first)))
      by false true is other found =
          let one : k ≡ x = (same k x).0 other in
          found-first (f a x) (one ∙ sym (chooses.second a x (subst (λ y. Before y a) one before)))
      by false false is other found = behind (eq k (f a x)) (list_any (eq k) xs) found

  pub reduced-end : (k : A) (xs : List A) → list_any (eq k) xs ≡ true → ((x : A) → list_any (eq x) xs ≡ true → Before k x)
      → reduce f xs ≡ Some k
  reduced-end k [] there others = absurd (true≢false (sym there))
  reduced-end k (x ∷ xs) there others =
      ap Some (folded-end k x xs there (others x (ap (λ b. b || list_any (eq x) xs) (itself same x)))
      (λ y found. others y (behind (eq y x) (list_any (eq y) xs) found)))
    where
      behind : (b c : Bool) → c ≡ true → (b || c) ≡ true
      behind true c found = refl
      behind false c found = found

chosen : {A : Type 0} (P : A → Type 0) (first : Bool) (a b : A) → P a → P b → P (cond first a b)
chosen P true a b of_a of_b = of_a
chosen P false a b of_a of_b = of_b

not-lt : (r s : Ordering) → s ≡ ordering_reverse r → is_gt r ≡ false → is_lt s ≡ false
not-lt Less s is not-gt = ap is_lt is
not-lt Equal s is not-gt = ap is_lt is
not-lt Greater s is not-gt = absurd (true≢false not-gt)

module _ {A : Type 0} {R : A → A → Ordering} (total : IsTotalOrder R) (alone : (a b : A) → R a b ≡ Equal → a ≡ b) where
  least-first : (a b : A) → is_gt (R a b) ≡ false → ord_min R a b ≡ a
  least-first a b before = ap (λ c. cond c b a) (not-lt (R a b) (R b a) (total.antisymm b a) before)

  pub least-chooses : Chooses (λ a b. is_gt (R a b) ≡ false) (ord_min R)
  least-chooses = record {
    first = least-first;
    second = λ a b before. min_commutes total alone a b ∙ least-first b a before;
    either = λ k a b of_a of_b. chosen (λ z. is_gt (R k z) ≡ false) (is_lt (R b a)) b a of_b of_a;
  }

  greatest-second : (a b : A) → is_lt (R b a) ≡ false → ord_max R a b ≡ b
  greatest-second a b before = ap (λ c. cond c a b) before

  pub greatest-chooses : Chooses (λ a b. is_lt (R a b) ≡ false) (ord_max R)
  greatest-chooses = record {
    first = λ a b before. max_commutes total alone a b ∙ greatest-second b a before;
    second = greatest-second;
    either = λ k a b of_a of_b. chosen (λ z. is_lt (R k z) ≡ false) (is_lt (R b a)) a b of_a of_b;
  }

-- ---- values without errors

-- the terms of values among which is no error
pub record AllTerms (values : List (Option Term)) : Type 0 where
  pub terms : List Term
  pub all : all_values values ≡ Some terms
  pub found : (term : Term) → list_any (term_eq term) terms ≡ list_any (option_eq term_eq (Some term)) values

pub all-terms : (values : List (Option Term)) → list_any (option_eq term_eq None) values ≡ false → AllTerms values
all-terms [] none = record { terms = []; all = refl; found = λ term. refl }
all-terms (None ∷ values) none = absurd (true≢false none)
all-terms (Some term ∷ values) none =
    let rest : AllTerms values = all-terms values none in
    record {
      terms = term ∷ rest.terms;
      all = ap (option_map (λ others. term ∷ others)) rest.all;
      found = λ other. ap (λ b. term_eq other term || b) (rest.found other);
    }

pub error-spoils : (f : List Term → Option Term) (values : List (Option Term)) → list_any (option_eq term_eq None) values ≡ true
    → option_and_then f (all_values values) ≡ None
error-spoils f [] there = absurd (true≢false (sym there))
error-spoils f (None ∷ values) there = refl
error-spoils f (Some term ∷ values) there = by (all_values values) (error-spoils Some-of values there)
  where
    Some-of : List Term → Option Term
    Some-of terms = Some term

    by : (o : Option (List Term)) → option_and_then Some-of o ≡ None → option_and_then f (option_map (λ others. term ∷ others) o) ≡ None
    by None is = refl
    by (Some others) is = cc
