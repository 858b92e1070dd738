-- What each value of a rule has, by the combinators that the rule is written with.
use Rattle.std.proofs.Common.{◌≡◌, ℕ, zero, suc, Bool, true, false, true≢false, cond, inl, inr, List, [], ◌∷◌, Option, None, Some, is_some, map, refl, sym, ap, subst}
use Rattle.std.specs.List.{AllByRecursion}
use Rattle.rsp_phrases.specs.Languages.{Language, among, has, mapped, tied, both, second_of, first_of_both, either, optional, seen, at_most, many, listed}
use Rattle.rsp_phrases.proofs.Good.{same_some}

-- whatever tokens are an expansion of the rule, its value has the property
pub record Gives {T A : Type 0} (P : A → Type 0) (p : Language T A) : Type 0 where
  pub each : (ts : List T) (v : A) → p.full ts v → P v

pub gives_any : {T A : Type 0} {P : A → Type 0} {p : Language T A} → ((v : A) → P v) → Gives P p
gives_any all = record { each = λ ts v h. all v }

-- ---- one token

kept : {A : Type 0} (b : Bool) (x v : A) → cond b (Some x) None ≡ Some v → (x ≡ v) × (b ≡ true)
kept true x v h = (same_some h, refl)
kept false x v h = absurd (true≢false (sym (ap is_some h)))

is_among : {T : Type 0} (kind : T → ℕ) (kinds : List ℕ) (ts : List T) (v : T) → (among kind kinds).full ts v
    → has kinds (kind v) ≡ true
is_among kind kinds [] v h = absurd h
is_among kind kinds (x ∷ []) v h =
    let is = kept (has kinds (kind x)) x v h in
    subst (λ y. has kinds (kind y) ≡ true) is.0 is.1
is_among kind kinds (x ∷ (y ∷ more)) v h = absurd h

pub gives_among : {T : Type 0} (kind : T → ℕ) (kinds : List ℕ) → Gives (λ x. has kinds (kind x) ≡ true) (among kind kinds)
gives_among kind kinds = record { each = is_among kind kinds }

-- ---- the same rule with another value, or on tokens that are read as others

pub gives_mapped : {T A B : Type 0} {P : A → Type 0} {Q : B → Type 0} {p : Language T A} {f : A → B}
    → Gives P p → ((v : A) → P v → Q (f v)) → Gives Q (mapped f p)
gives_mapped {Q = Q} gives so = record {
  each = λ ts v h. subst Q (sym h.is) (so h.source (gives.each ts h.source h.spelled));
}

pub gives_seen : {T A : Type 0} {P : A → Type 0} {p : Language T A} {f : T → T} → Gives P p → Gives P (seen f p)
gives_seen {f = f} gives = record { each = λ ts v h. gives.each (map f ts) v h }

-- ---- one behind the other

pub gives_first : {T A B : Type 0} {P : A → Type 0} {Q : A × B → Type 0} {p : Language T A} {q : A → Language T B}
    → Gives P p → ((v : A × B) → P v.0 → Q v) → Gives Q (tied p q)
gives_first gives so = record { each = λ ts v h. so v (gives.each h.left v.0 h.first) }

pub gives_second : {T A B : Type 0} {P : B → Type 0} {Q : A × B → Type 0} {p : Language T A} {q : A → Language T B}
    → ((v : A) → Gives P (q v)) → ((v : A × B) → P v.1 → Q v) → Gives Q (tied p q)
gives_second gives so = record { each = λ ts v h. so v ((gives v.0).each h.right v.1 h.second) }

pub gives_both : {T A B : Type 0} {P : A → Type 0} {Q : B → Type 0} {p : Language T A} {q : Language T B} → Gives P p → Gives Q q
    → Gives (λ (v : A × B). P v.0 × Q v.1) (both p q)
gives_both first second =
    record { each = λ ts v h. (first.each h.left v.0 h.first, second.each h.right v.1 h.second) }

pub gives_second_of : {T A B : Type 0} {P : B → Type 0} {p : Language T A} {q : Language T B} → Gives P q
    → Gives P (second_of p q)
gives_second_of {P = P} gives =
    gives_mapped (gives_second {Q = λ v. P v.1} (λ v. gives) (λ v is. is)) (λ v is. is)

pub gives_first_of : {T A B : Type 0} {P : A → Type 0} {p : Language T A} {q : Language T B} → Gives P p
    → Gives P (first_of_both p q)
gives_first_of {P = P} gives = gives_mapped (gives_first {Q = λ v. P v.0} gives (λ v is. is)) (λ v is. is)

-- ---- one or the other

pub gives_either : {T A : Type 0} {P : A → Type 0} {p q : Language T A} → Gives P p → Gives P q → Gives P (either p q)
gives_either {P = P} {p = p} {q = q} first second = record { each = by }
  where
    by : (ts : List _) (v : _) → (either p q).full ts v → P v
    by ts v (inl h) = first.each ts v h
    by ts v (inr h) = second.each ts v h

pub gives_optional : {T A : Type 0} {P : A → Type 0} {Q : Option A → Type 0} {p : Language T A}
    → Gives P p → ((v : A) → P v → Q (Some v)) → Q None → Gives Q (optional p)
gives_optional {Q = Q} gives so none =
    gives_either (gives_mapped gives so) (record { each = λ ts v h. subst Q (sym h.1) none })

-- ---- any number of it

gives_at_most : {T A : Type 0} {P : A → Type 0} {p : Language T A} → Gives P p → (most : ℕ)
    → Gives (AllByRecursion P) (at_most p most)
unfolding at_most
gives_at_most {P = P} gives zero = record { each = λ ts v h. subst (AllByRecursion P) (sym h.1) tt }
gives_at_most {P = P} gives (suc n) =
    gives_mapped
    (gives_optional {Q = λ v. AllByRecursion P (listed v)} (gives_both gives (gives_at_most gives n)) (λ v all. all) tt)
    (λ v all. all)

pub gives_many : {T A : Type 0} {P : A → Type 0} {p : Language T A} → Gives P p → Gives (AllByRecursion P) (many p)
gives_many gives = record { each = λ ts v h. (gives_at_most gives h.depth).each ts v h.spelled }
