-- Stored quads as a multiset: in whatever order they stand, as many are stored, and the same ones, after an insert or a delete.
use Rattle.std.proofs.Common.{◌≡◌, Bool, true, false, true≢false, not, if◌then◌else◌, List, [], ◌∷◌, ◌++◌, length, refl, sym}
use Rattle.std.specs.List.{list_any}
use Rattle.rsp_multiset.specs.Weights.{IsSameMultiset}
use Rattle.rsp_multiset.proofs.Linear.{length-same}
use Rattle.rsp_multiset.proofs.SameLists.{same-any, same-append, same-filter}
use Rattle.rsp_terms.specs.declared.statement.Fact.{Fact}
use Rattle.rsp_terms.specs.declared.statement.Quad.{Quad}
use Rattle.rsp_terms.specs.Same.{fact_eq, fact_same}
use Rattle.rsp_scope.specs.Quads.{fact_of, names, store, stored_with, stored_without}

same-store : (xs ys : List Fact) (quad : Quad) → IsSameMultiset fact_eq xs ys → IsSameMultiset fact_eq (store xs quad) (store ys quad)
same-store xs ys quad alike =
    by (list_any (fact_eq (fact_of quad)) xs) (list_any (fact_eq (fact_of quad)) ys) (same-any fact_same (fact_eq (fact_of quad)) xs ys alike)
  where
    by : (a b : Bool) → a ≡ b
        → IsSameMultiset fact_eq (if a then xs else xs ++ fact_of quad ∷ []) (if b then ys else ys ++ fact_of quad ∷ [])
    by true true e = alike
    by false false e = same-append fact_same xs ys (fact_of quad ∷ []) (fact_of quad ∷ []) alike (λ q. refl)
    by true false e = absurd (true≢false e)
    by false true e = absurd (true≢false (sym e))

pub same-stored_with : (xs ys : List Fact) (quads : List Quad) → IsSameMultiset fact_eq xs ys
    → IsSameMultiset fact_eq (stored_with xs quads) (stored_with ys quads)
same-stored_with xs ys [] alike = alike
same-stored_with xs ys (quad ∷ quads) alike = same-stored_with (store xs quad) (store ys quad) quads (same-store xs ys quad alike)

pub as-many-stored_with : (xs ys : List Fact) (quads : List Quad) → IsSameMultiset fact_eq xs ys
    → length (stored_with xs quads) ≡ length (stored_with ys quads)
as-many-stored_with xs ys quads alike =
    length-same fact_same (stored_with xs quads) (stored_with ys quads) (same-stored_with xs ys quads alike)

pub same-stored_without : (xs ys : List Fact) (quads : List Quad) → IsSameMultiset fact_eq xs ys
    → IsSameMultiset fact_eq (stored_without xs quads) (stored_without ys quads)
same-stored_without xs ys quads alike = same-filter fact_same (λ fact. not (names quads fact)) xs ys alike
