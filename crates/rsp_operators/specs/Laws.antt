-- Definitions: what an operator is given, what it answers, and how its state is carried from one domain to another.
use Rattle.std.specs.Prelude.{◌≡◌, ◌≢◌, ℕ, Bool, List, IsSome, ℤ, pos, length}
use Rattle.std.specs.List.{AllByRecursion}
use Rattle.rsp_multiset.specs.Rows.{Cells, row_eq}
use Rattle.rsp_multiset.specs.Shown.{shown_row, IsKnown, IsChangedShown}
use Rattle.rsp_multiset.specs.Variables.{cell}
use Rattle.rsp_multiset.specs.Weights.{weight}
use Rattle.rsp_terms.specs.declared.term.Term.{Term}
use Rattle.rsp_terms.specs.Same.{term_eq}

-- the row has the width and binds the key
pub record Fits {V : Type 0} (width : ℕ) (key : List ℕ) (row : Cells V) : Type 0 where
  pub long : length row ≡ width
  pub bound : AllByRecursion (λ v. IsSome (cell row v)) key

-- so do all rows of a list
abbrev pub AllFit : {V : Type 0} → ℕ → List ℕ → List (Cells V) → Type 0
AllFit width key rows = AllByRecursion (Fits width key) rows

-- and those of a change, whose cells are known
abbrev pub ChangesFit : {V : Type 0} → ℕ → List ℕ → (V → Type 0) → List (Cells V × ℤ) → Type 0
ChangesFit {V} width key knows change =
    AllByRecursion (λ (e : Cells V × ℤ). Fits width key e.0 × IsKnown knows e.0) change

-- the second list holds each row as often as the first and what the change's rows show together
abbrev pub Leads : {V : Type 0} → (V → Term) → List (Cells Term) → List (Cells V × ℤ) → List (Cells Term) → Type 0
Leads shown before change after = IsChangedShown (row_eq term_eq) (shown_row shown) before change after

-- what an operator on one input may be given: fitting changes that lead from a list that its state stands for to a list
pub record MayBeGiven {V : Type 0} (width : ℕ) (key : List ℕ) (knows : V → Type 0) (shown : V → Term)
    (Stands : List (Cells Term) → Type 0) (change : List (Cells V × ℤ)) : Type 0 where
  pub fit : ChangesFit width key knows change
  pub before : List (Cells Term)
  pub after : List (Cells Term)
  pub stands : Stands before
  pub before_fit : AllFit width key before
  pub after_fit : AllFit width key after
  pub leads : Leads shown before change after

-- and what an operator on two
pub record MayBothBeGiven {V : Type 0} (width : ℕ) (key : List ℕ) (knows : V → Type 0) (shown : V → Term)
    (Stands : List (Cells Term) → List (Cells Term) → Type 0) (left right : List (Cells V × ℤ)) : Type 0 where
  pub left_fits : ChangesFit width key knows left
  pub right_fits : ChangesFit width key knows right
  pub lefts : List (Cells Term)
  pub rights : List (Cells Term)
  pub lefts_after : List (Cells Term)
  pub rights_after : List (Cells Term)
  pub stands : Stands lefts rights
  pub before_fit : AllFit width key lefts × AllFit width key rights
  pub after_fit : AllFit width key lefts_after × AllFit width key rights_after
  pub left_leads : Leads shown lefts left lefts_after
  pub right_leads : Leads shown rights right rights_after

-- what a change weighs has the width and known cells
abbrev pub AnswersFit : {V : Type 0} → (V → V → Bool) → ℕ → (V → Type 0) → List (Cells V × ℤ) → Type 0
AnswersFit {V} eq width knows change =
    (row : Cells V) → weight (row_eq eq) change row ≢ pos 0 → (length row ≡ width) × IsKnown knows row

-- the second domain knows the value, and shows it as the first
abbrev pub IsShownAlike : {V : Type 0} → (V → Term) → (V → Type 0) → (V → Term) → V → Type 0
IsShownAlike shown knows' shown' value = knows' value × (shown' value ≡ shown value)
