-- Words of the way: the rows that some groups have.
use Rattle.std.specs.Prelude.{◌≡◌, ℕ, Bool, true, false, List, [], ◌∷◌, length, Option, None, map, filter}
use Rattle.std.specs.Bool.{then_some}
use Rattle.std.specs.List.{list_any}
use Rattle.rsp_expr.specs.Groups.{group_of}
use Rattle.rsp_groups.specs.Moves.{columns, results_over}
use Rattle.rsp_multiset.specs.Rows.{Cells, row_eq}
use Rattle.rsp_multiset.specs.Shown.{shown_row, IsKnown}
use Rattle.rsp_multiset.specs.Variables.{row_by, projection, extension}
use Rattle.rsp_terms.specs.declared.term.Term.{Term}
use Rattle.rsp_terms.specs.Same.{term_eq}

abbrev pub is_empty_key : List ℕ → Bool
is_empty_key [] = true
is_empty_key (v ∷ vs) = false

-- whether rows have a group of this key
abbrev pub is_group : ℕ → List ℕ → List (Cells Term) → Cells Term → Bool
is_group width [] rows key = row_eq term_eq key (row_by width (λ _. None))
is_group width (v ∷ vs) rows key = list_any (row_eq term_eq key) (map (projection width (v ∷ vs)) rows)

-- a key of which a row changed
pub record MayTouch {V : Type 0} (knows : V → Type 0) (width : ℕ) (keys : List ℕ) (key : Cells V) : Type 0 where
  pub known : IsKnown knows key
  pub long : length key ≡ width
  pub keyless : keys ≡ [] → key ≡ row_by width (λ _. None)

-- the row with these cells for the variables
abbrev pub with_cells : {V : Type 0} → ℕ → List ℕ → List (Option V) → Cells V → Cells V
with_cells width (v ∷ vs) (value ∷ values) row = with_cells width vs values (extension width v value row)
with_cells width vs values row = row

-- the row of a group: its key with the aggregates over its rows for their variables
abbrev pub group_row :
    ℕ → List ℕ → List (Cells Term → Option Term) → List (List (Option Term) → Option Term) → List (Cells Term) →
    Cells Term → Cells Term
group_row width variables arguments aggregates rows key =
    with_cells width variables (results_over aggregates (columns arguments rows)) key

-- the row of the key's group, if rows have one
abbrev pub row_over :
    {V : Type 0} → (V → Term) → ℕ → List ℕ → (List (Cells Term) → Cells Term → Cells Term) → List (Cells Term) →
    Cells V → Option (Cells Term)
row_over shown width keys row_of rows key =
    then_some (is_group width keys rows (shown_row shown key))
    (row_of (group_of width keys rows (shown_row shown key)) (shown_row shown key))

-- the rows of the groups that rows have of these keys
abbrev pub rows_over :
    {V : Type 0} → (V → Term) → ℕ → List ℕ → (List (Cells Term) → Cells Term → Cells Term) → List (Cells Term) →
    List (Cells V) → List (Cells Term)
rows_over shown width keys row_of rows touched =
    map (λ key. row_of (group_of width keys rows key) key) (filter (is_group width keys rows) (map (shown_row shown) touched))

-- a row of the width, of known cells
pub record IsRow {V : Type 0} (width : ℕ) (knows : V → Type 0) (row : Cells V) : Type 0 where
  pub long : length row ≡ width
  pub known : IsKnown knows row

-- so is a row that shows these cells
pub record Shows {V : Type 0} (width : ℕ) (knows : V → Type 0) (shown : V → Term) (row : Cells V)
    (cells : Cells Term) : Type 0 where
  pub is : IsRow width knows row
  pub shows : shown_row shown row ≡ cells
