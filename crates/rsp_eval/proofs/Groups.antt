-- Groups by their keys.
use Rattle.std.proofs.Common.{◌≡◌, ℕ, List, [], ◌∷◌, None, map, length, refl, arith}
use Rattle.rsp_multiset.specs.RowLists.{each_once}
use Rattle.rsp_multiset.specs.Rows.{Cells}
use Rattle.rsp_terms.specs.declared.term.Term.{Term}
use Rattle.rsp_expr.specs.Formulas.{Aggregation}
use Rattle.rsp_algebra.specs.Patterns.{row_by}
use Rattle.rsp_algebra.specs.Solutions.{same_row, projection, group_keys, with_aggregates}

pub keys_of_one_group : (width : ℕ) (keys : List ℕ) (rows : List (Cells Term)) → length keys ≡ 0 → row_by width (λ _. None) ∷ [] ≡ group_keys width keys rows
keys_of_one_group width [] rows none = refl
keys_of_one_group width (key ∷ keys) rows none = let never : ⊥ = omega (arith, none) in absurd never

pub keys_of_each_group : (width : ℕ) (keys : List ℕ) (rows : List (Cells Term)) → (length keys ≡ 0 → ⊥) → each_once same_row (map (projection width keys) rows) ≡ group_keys width keys rows
keys_of_each_group width [] rows some = absurd (some refl)
keys_of_each_group width (key ∷ keys) rows some = refl

-- groups that are the same under each key give the same rows
pub same_groups : (width : ℕ) (aggregates : List (ℕ × Aggregation)) (bucket group : Cells Term → List (Cells Term)) → ((q : Cells Term) → bucket q ≡ group q) → (keys : List (Cells Term)) → map (λ key. with_aggregates width aggregates (bucket key) key) keys ≡ map (λ key. with_aggregates width aggregates (group key) key) keys
same_groups width aggregates bucket group is [] = refl
same_groups width aggregates bucket group is (key ∷ keys) =
    (λ i. with_aggregates width aggregates (is key i) key ∷ same_groups width aggregates bucket group is keys i)
