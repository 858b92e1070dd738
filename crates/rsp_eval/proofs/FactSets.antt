-- A fact that comes into a set of facts, or goes out of it.
use Rattle.std.proofs.Common.{◌≡◌, inl, inr, Bool, true, false, cond, List, [], ◌∷◌, ℤ, pos, negsuc, ◌+ℤ◌, ◌<ℤ◌, refl, sym, ap, ◌∙◌, arith}
use Rattle.std.specs.List.{list_any}
use Rattle.std.proofs.lemmas.Int.{ints}
use Rattle.rsp_multiset.specs.Weights.{only, weight, times, IsChanged}
use Rattle.rsp_terms.specs.declared.statement.Fact.{Fact}
use Rattle.rsp_terms.specs.Same.{fact_eq, fact_same}
use Rattle.rsp_algebra.specs.Changing.{IsSet}
use Rattle.rsp_algebra.proofs.Sets.{times-set, set-changed}
use Rattle.rsp_eval.specs.Facts.{MayCome}

held : (b c : Bool) → only b (pos 1) ≡ only c (pos 1) → b ≡ c
held true true h = refl
held true false h = let never : ⊥ = omega (arith, ints, h) in absurd never
held false true h = let never : ⊥ = omega (arith, ints, h) in absurd never
held false false h = refl

pub fact_comes : (before after : List Fact) (x : Fact) → IsSet before → IsSet after → ((q : Fact) → list_any (fact_eq q) after ≡ cond (fact_eq x q) true (list_any (fact_eq q) before)) → times fact_eq before x ≡ pos 0 → IsChanged fact_eq before ((x, pos 1) ∷ []) after
fact_comes before after x set set_after is absent =
    set-changed fact_same before after x true (pos 1) set set_after is (held (list_any (fact_eq x) before) false (sym (times-set fact_same before set x) ∙ absent)) refl

pub fact_goes : (before after : List Fact) (x : Fact) → IsSet before → IsSet after → ((q : Fact) → list_any (fact_eq q) after ≡ cond (fact_eq x q) false (list_any (fact_eq q) before)) → times fact_eq before x ≡ pos 1 → IsChanged fact_eq before ((x, negsuc 0) ∷ []) after
fact_goes before after x set set_after is there =
    set-changed fact_same before after x false (negsuc 0) set set_after is (held (list_any (fact_eq x) before) true (sym (times-set fact_same before set x) ∙ there)) refl

-- the sign says which
pub goes_below : (facts : List Fact) (x : Fact) (by : ℤ) → MayCome facts x by → by <ℤ pos 0 → (by ≡ negsuc 0) × (times fact_eq facts x ≡ pos 1)
goes_below facts x by (inl comes) below = let never : ⊥ = omega (arith, ints, comes.0, below) in absurd never
goes_below facts x by (inr goes) below = goes

pub comes_above : (facts : List Fact) (x : Fact) (by : ℤ) → MayCome facts x by → (by <ℤ pos 0 → ⊥) → (by ≡ pos 1) × (times fact_eq facts x ≡ pos 0)
comes_above facts x by (inl comes) above = comes
comes_above facts x by (inr goes) above = absurd (above (omega (arith, ints, goes.0)))

-- the next change is taken in
pub next_taken : (start before after : List Fact) (changes left rest : List (Fact × ℤ)) (x : Fact) (by : ℤ) → left ≡ (x, by) ∷ rest → IsChanged fact_eq before ((x, by) ∷ []) after
    → ((q : Fact) → times fact_eq before q +ℤ weight fact_eq left q ≡ times fact_eq start q +ℤ weight fact_eq changes q)
    → (q : Fact) → times fact_eq after q +ℤ weight fact_eq rest q ≡ times fact_eq start q +ℤ weight fact_eq changes q
next_taken start before after changes left rest x by is changed_rows so_far q =
    let step = ap (λ l. weight fact_eq l q) is in
    let one = changed_rows q in
    let known = so_far q in
    omega (arith, ints, step, one, known)
