-- Definitions: groups of rows (SPARQL 1.1 Query, section 18.5, Group and AggregateJoin), for aggregates of any kind: a value over
-- the rows of a group.
use Rattle.std.specs.Prelude.{ℕ, Option, None, List, [], ◌∷◌, map}
use Rattle.std.specs.List.{fold}
use Rattle.rsp_multiset.specs.RowLists.{each_once, of_key}
use Rattle.rsp_multiset.specs.Rows.{Cells, row_eq}
use Rattle.rsp_multiset.specs.Variables.{row_by, extension, projection}
use Rattle.rsp_terms.specs.declared.term.Term.{Term}
use Rattle.rsp_terms.specs.Same.{term_eq}

-- the cells at the keys, of each group once; without keys all rows are one group, also where there are none. In a key unbound
-- is a value like any other
abbrev pub group_keys : ℕ → List ℕ → List (Cells Term) → List (Cells Term)
group_keys width [] rows = row_by width (λ _. None) ∷ []
group_keys width (key ∷ keys) rows = each_once (row_eq term_eq) (map (projection width (key ∷ keys)) rows)

-- the rows of a group
abbrev pub group_of : ℕ → List ℕ → List (Cells Term) → Cells Term → List (Cells Term)
group_of width keys rows key = of_key (row_eq term_eq) (projection width keys) rows key

-- the row with each aggregate's value over a group's rows for its variable; an error leaves it unbound
abbrev pub with_values :
    {A : Type 0} → (A → List (Cells Term) → Option Term) → ℕ → List (ℕ × A) → List (Cells Term) → Cells Term →
    Cells Term
with_values valued width aggregates rows key =
    fold (λ row aggregate. extension width aggregate.0 (valued aggregate.1 rows) row) key aggregates

-- one row per group
abbrev pub grouped_by :
    {A : Type 0} → (A → List (Cells Term) → Option Term) → ℕ → List ℕ → List (ℕ × A) → List (Cells Term) →
    List (Cells Term)
grouped_by valued width keys aggregates rows =
    map (λ key. with_values valued width aggregates (group_of width keys rows key) key) (group_keys width keys rows)
