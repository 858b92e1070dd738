-- A change whose facts come and go by turns may be made.
use Rattle.std.proofs.Common.{◌≡◌, ◌≢◌, ◌⊎◌, inl, inr, zero, suc, Bool, true, false, List, [], ◌∷◌, ℤ, pos, negsuc, ◌+ℤ◌, refl, sym, subst, ◌∙◌, arith, Decides}
use Rattle.std.specs.List.{AllByRecursion}
use Rattle.std.proofs.lemmas.Int.{ints}
use Rattle.rsp_multiset.specs.Weights.{only, weight, times, Holds}
use Rattle.rsp_terms.specs.declared.statement.Fact.{Fact}
use Rattle.rsp_terms.specs.Same.{fact_eq, fact_same}
use Rattle.rsp_algebra.specs.Changing.{MayChange}
use Rattle.rsp_query_tests.specs.Followed.{Turns, MayTurn}

module _ {E : Type 0} (eq : E → E → Bool) (same : (x y : E) → Decides (eq x y) (x ≡ y)) where
  -- what each entry has, each value has that is weighed
  pub weighed-has : (P : E → Type 0) (es : List (E × ℤ)) → AllByRecursion (λ (e : E × ℤ). P e.0) es → (q : E) → weight eq es q ≢ pos 0 → P q
  weighed-has P [] all q some = absurd (some refl)
  weighed-has P (e ∷ es) all q some = by (eq q e.0) refl some (weighed-has P es all.1 q)
    where
      by : (b : Bool) → eq q e.0 ≡ b → only b e.1 +ℤ weight eq es q ≢ pos 0 → (weight eq es q ≢ pos 0 → P q) → P q
      by true is some rest = subst P (sym ((same q e.0).0 is)) all.0
      by false is some rest = rest (λ none. some (omega (arith, ints, none)))

pub may_change : (facts : List Fact) (given changes : List (Fact × ℤ)) → Holds fact_eq given facts → MayTurn given changes → MayChange facts changes
may_change facts given changes held turns q = by (weight fact_eq changes q) refl
  where
    weighed : weight fact_eq changes q ≢ pos 0 → Turns given changes q
    weighed = weighed-has fact_eq fact_same (Turns given changes) changes turns q

    turn : Turns given changes q → (weight fact_eq changes q ≡ pos 0) ⊎ (((weight fact_eq changes q ≡ pos 1) × (times fact_eq facts q ≡ pos 0)) ⊎ ((weight fact_eq changes q ≡ negsuc 0) × (times fact_eq facts q ≡ pos 1)))
    turn (inl comes) = inr (inl (comes.0, sym (held q) ∙ comes.1))
    turn (inr goes) = inr (inr (goes.0, sym (held q) ∙ goes.1))

    by : (n : ℤ) → weight fact_eq changes q ≡ n → (weight fact_eq changes q ≡ pos 0) ⊎ (((weight fact_eq changes q ≡ pos 1) × (times fact_eq facts q ≡ pos 0)) ⊎ ((weight fact_eq changes q ≡ negsuc 0) × (times fact_eq facts q ≡ pos 1)))
    by (pos zero) is = inl is
    by (pos (suc n)) is = turn (weighed (λ none. let never : ⊥ = omega (arith, ints, is, none) in never))
    by (negsuc n) is = turn (weighed (λ none. let never : ⊥ = omega (arith, ints, is, none) in never))
