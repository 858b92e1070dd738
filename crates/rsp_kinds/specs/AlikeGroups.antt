-- Words of the way: the value of groups depends on the rows as a multiset alone.
use Rattle.std.specs.Prelude.{◌≡◌, ℕ, Option, List, [], ◌∷◌, map}
use Rattle.std.proofs.Common.{refl, ap, ◌∙◌}
use Rattle.rsp_multiset.specs.Rows.{Cells, row_eq}
use Rattle.rsp_multiset.specs.RowSame.{row_decides}
use Rattle.rsp_multiset.specs.Variables.{projection, extension}
use Rattle.rsp_multiset.specs.Weights.{times}
use Rattle.rsp_multiset.proofs.SameLists.{same-filter, same-map, same-once}
use Rattle.rsp_terms.specs.declared.term.Term.{Term}
use Rattle.rsp_terms.specs.Same.{term_eq, term_same}
use Rattle.rsp_expr.specs.Groups.{group_keys, group_of, with_values, grouped_by}
use Rattle.rsp_kinds.specs.Alike.{SameRows}

-- the same rows have the same groups
alike_group_of : (width : ℕ) (keys : List ℕ) (rows others : List (Cells Term)) (key : Cells Term) → SameRows rows others
    → SameRows (group_of width keys rows key) (group_of width keys others key)
alike_group_of width keys rows others key same =
    same-filter (row_decides term_same) (λ row. row_eq term_eq key (projection width keys row)) rows others same

alike_keys : (width : ℕ) (keys : List ℕ) (rows others : List (Cells Term)) → SameRows rows others
    → SameRows (group_keys width keys rows) (group_keys width keys others)
alike_keys width [] rows others same = λ q. refl
alike_keys width (key ∷ keys) rows others same =
    same-once (row_decides term_same) (map (projection width (key ∷ keys)) rows) (map (projection width (key ∷ keys)) others)
    (same-map (row_decides term_same) (row_eq term_eq) (projection width (key ∷ keys)) rows others same)

-- the same rows make the same rows of groups
module _ {A : Type 0} (valued : A → List (Cells Term) → Option Term)
    (alike : (a : A) (rows others : List (Cells Term)) → SameRows rows others → valued a rows ≡ valued a others) (width : ℕ) where
  alike_values : (aggregates : List (ℕ × A)) (rows others : List (Cells Term)) (key : Cells Term) → SameRows rows others
      → with_values valued width aggregates rows key ≡ with_values valued width aggregates others key
  alike_values [] rows others key same = refl
  alike_values (aggregate ∷ aggregates) rows others key same =
      (λ i. with_values valued width aggregates rows (extension width aggregate.0 (alike aggregate.1 rows others same i) key))
      ∙ alike_values aggregates rows others (extension width aggregate.0 (valued aggregate.1 others) key) same

  map_alike : (f g : Cells Term → Cells Term) → ((row : Cells Term) → f row ≡ g row) → (rows : List (Cells Term)) → map f rows ≡ map g rows
  map_alike f g same [] = refl
  map_alike f g same (row ∷ rows) = λ i. same row i ∷ map_alike f g same rows i

  pub alike_grouped : (keys : List ℕ) (aggregates : List (ℕ × A)) (rows others : List (Cells Term)) → SameRows rows others
      → SameRows (grouped_by valued width keys aggregates rows) (grouped_by valued width keys aggregates others)
  alike_grouped keys aggregates rows others same q =
      let made = λ (rows : List (Cells Term)) (key : Cells Term). with_values valued width aggregates (group_of width keys rows key) key in
      ap (λ made_rows. times (row_eq term_eq) made_rows q) (map_alike (made rows) (made others) (λ key.
      alike_values aggregates (group_of width keys rows key) (group_of width keys others key) key
      (alike_group_of width keys rows others key same)) (group_keys width keys rows))
      ∙ same-map (row_decides term_same) (row_eq term_eq) (made others) (group_keys width keys rows) (group_keys width keys others)
      (alike_keys width keys rows others same) q
