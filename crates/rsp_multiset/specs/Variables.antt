-- Definitions: rows by their variables. A row has a cell for each variable that is below the width.
use Rattle.std.specs.Prelude.{ℕ, Bool, nat_eq, if◌then◌else◌, Option, None, List, map, slice_index_or}
use Rattle.std.specs.List.{list_any, range_with_len}
use Rattle.rsp_multiset.specs.Rows.{Cells}

-- the row that binds each variable below the width to what f gives
abbrev pub row_by : {V : Type 0} → ℕ → (ℕ → Option V) → Cells V
row_by width f = map f (range_with_len 0 width)

-- what a row binds a variable to
abbrev pub cell : {V : Type 0} → Cells V → ℕ → Option V
cell row v = slice_index_or row v None

abbrev pub among : List ℕ → ℕ → Bool
among variables v = list_any (nat_eq v) variables

-- the row with this cell for the variable (SPARQL 1.1 Query, section 18.5, Extend)
abbrev pub extension : {V : Type 0} → ℕ → ℕ → Option V → Cells V → Cells V
extension width variable value row = row_by width (λ v. if nat_eq v variable then value else cell row v)

-- the row with all variables but these unbound (section 18.5, Project)
abbrev pub projection : {V : Type 0} → ℕ → List ℕ → Cells V → Cells V
projection width variables row = row_by width (λ v. if among variables v then cell row v else None)

-- the cells of a row for these variables, in their order
abbrev pub cells_at : {V : Type 0} → List ℕ → Cells V → Cells V
cells_at variables row = map (cell row) variables
