-- Lists of kinds, compared by tests that compute.
use Rattle.std.proofs.Common.{◌≡◌, ℕ, Bool, true, false, true≢false, not, ◌&&◌, ◌||◌, List, [], ◌∷◌, ◌++◌, ◌==◌, refl, sym, ap₂, subst, ◌⊎◌, inl, inr, eqb-true, eq-eqb, append-nil}
use Rattle.std.specs.List.{list_all}
use Rattle.rsp_phrases.specs.Languages.{has}

-- no kind is in both
abbrev pub apart : List ℕ → List ℕ → Bool
apart ks ls = list_all (λ k. not (has ls k)) ks

-- each kind of the first is in the second
abbrev pub covered : List ℕ → List ℕ → Bool
covered ks ls = list_all (λ k. has ls k) ks

pub or_cases : (a b : Bool) → (a || b) ≡ true → (a ≡ true) ⊎ (b ≡ true)
or_cases true b h = inl refl
or_cases false b h = inr h

pub or_left : (a b : Bool) → a ≡ true → (a || b) ≡ true
or_left true b h = refl
or_left false b h = absurd (true≢false (sym h))

pub or_right : (a b : Bool) → b ≡ true → (a || b) ≡ true
or_right true b h = refl
or_right false b h = h

pub and_left : (a b : Bool) → (a && b) ≡ true → a ≡ true
and_left true b h = refl
and_left false b h = absurd (true≢false (sym h))

pub and_right : (a b : Bool) → (a && b) ≡ true → b ≡ true
and_right true b h = h
and_right false b h = absurd (true≢false (sym h))

pub has_append : (ks ls : List ℕ) (k : ℕ) → has (ks ++ ls) k ≡ true → (has ks k ≡ true) ⊎ (has ls k ≡ true)
has_append [] ls k h = inr h
has_append (x ∷ ks) ls k h = elim (or_cases (x == k) (has (ks ++ ls) k) h) [
  | inl a ↦ inl (or_left (x == k) (has ks k) a)
  | inr b ↦ elim (has_append ks ls k b) [ inl c ↦ inl (or_right (x == k) (has ks k) c) | inr d ↦ inr d ]
]

pub has_left : (ks ls : List ℕ) (k : ℕ) → has ks k ≡ true → has (ks ++ ls) k ≡ true
has_left [] ls k h = absurd (true≢false (sym h))
has_left (x ∷ ks) ls k h = elim (or_cases (x == k) (has ks k) h) [
  | inl a ↦ or_left (x == k) (has (ks ++ ls) k) a
  | inr b ↦ or_right (x == k) (has (ks ++ ls) k) (has_left ks ls k b)
]

pub has_right : (ks ls : List ℕ) (k : ℕ) → has ls k ≡ true → has (ks ++ ls) k ≡ true
has_right [] ls k h = h
has_right (x ∷ ks) ls k h = or_right (x == k) (has (ks ++ ls) k) (has_right ks ls k h)

all_of : (f : ℕ → Bool) (ks : List ℕ) (k : ℕ) → list_all f ks ≡ true → has ks k ≡ true → f k ≡ true
all_of f [] k h is = absurd (true≢false (sym is))
all_of f (x ∷ ks) k h is = elim (or_cases (x == k) (has ks k) is) [
  | inl a ↦ subst (λ y. f y ≡ true) (eqb-true x k a) (and_left (f x) (list_all f ks) h)
  | inr b ↦ all_of f ks k (and_right (f x) (list_all f ks) h) b
]

not_true : (b : Bool) → not b ≡ true → b ≡ true → ⊥
not_true true h is = true≢false (sym h)
not_true false h is = true≢false (sym is)

pub not_both : (ks ls : List ℕ) (k : ℕ) → apart ks ls ≡ true → has ks k ≡ true → has ls k ≡ true → ⊥
not_both ks ls k h a b = not_true (has ls k) (all_of (λ k. not (has ls k)) ks k h a) b

pub has_covered : (ks ls : List ℕ) (k : ℕ) → covered ks ls ≡ true → has ks k ≡ true → has ls k ≡ true
has_covered ks ls k h a = all_of (λ k. has ls k) ks k h a

-- the kinds, where the flag stands
abbrev pub where_so : Bool → List ℕ → List ℕ
where_so true ks = ks
where_so false ks = []

pub covered_by : (ks ls : List ℕ) → ((k : ℕ) → has ks k ≡ true → has ls k ≡ true) → covered ks ls ≡ true
covered_by [] ls h = refl
covered_by (x ∷ ks) ls h =
    ap₂ ◌&&◌ (h x (or_left (x == x) (has ks x) (eq-eqb x x refl))) (covered_by ks ls (λ k is. h k (or_right (x == k) (has ks k) is)))

pub covered_self : (ks : List ℕ) → covered ks ks ≡ true
covered_self ks = covered_by ks ks (λ k is. is)

pub covered_nil : (ks : List ℕ) → covered (ks ++ []) ks ≡ true
covered_nil ks = covered_by (ks ++ []) ks (λ k is. subst (λ ls. has ls k ≡ true) (append-nil ks) is)

pub apart_none : (ks : List ℕ) → apart ks [] ≡ true
apart_none [] = refl
apart_none (k ∷ ks) = apart_none ks
