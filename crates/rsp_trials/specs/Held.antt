-- Words of the way: the rows that an input holds, as a list, and what a change of them must be.
use Rattle.std.specs.Prelude.{◌≡◌, ◌≢◌, ℕ, zero, suc, List, [], ◌∷◌, ℤ, pos, negsuc, ◌+ℤ◌, ◌≤ℤ◌}
use Rattle.std.specs.List.{AllByRecursion}
use Rattle.rsp_multiset.specs.Rows.{Cells, row_eq}
use Rattle.rsp_multiset.specs.Weights.{weight}
use Rattle.rsp_terms.specs.declared.term.Term.{Term}
use Rattle.rsp_terms.specs.Same.{term_eq}
use Rattle.rsp_operators.specs.Laws.{Fits}

-- rows with how often each is there
abbrev pub Counted : Type 0
Counted = List (Cells Term × ℤ)

abbrev pub copies : {X : Type 0} → ℕ → X → List X → List X
copies zero x xs = xs
copies (suc n) x xs = x ∷ copies n x xs

abbrev pub copies_of : {X : Type 0} → ℤ → X → List X → List X
copies_of (pos n) x xs = copies n x xs
copies_of (negsuc n) x xs = xs

-- each row as often as its count says
abbrev pub rows_of : Counted → List (Cells Term)
rows_of [] = []
rows_of (e ∷ es) = copies_of e.1 e.0 (rows_of es)

-- the rows that are there have the width and bind the key
abbrev pub AreFit : ℕ → List ℕ → Counted → Type 0
AreFit width key rows = (row : Cells Term) → weight (row_eq term_eq) rows row ≢ pos 0 → Fits width key row

-- so do those of the change, and no more of a row goes than is there
abbrev pub IsGiven : ℕ → List ℕ → Counted → Counted → Type 0
IsGiven width key rows change =
    AllByRecursion
    (λ (e : Cells Term × ℤ). Fits width key e.0
    × (pos 0 ≤ℤ (weight (row_eq term_eq) rows e.0 +ℤ weight (row_eq term_eq) change e.0)))
    change

-- the rows with the change
abbrev pub IsSum : Counted → Counted → Counted → Type 0
IsSum before change after =
    (q : Cells Term) → weight (row_eq term_eq) after q
    ≡ weight (row_eq term_eq) before q +ℤ weight (row_eq term_eq) change q

-- an operator of this width and key on one input, whose state stands for the rows that the input holds
pub record StandsForRows (width : ℕ) (key : List ℕ) (Stands : List (Cells Term) → Type 0) (long : ℕ) (bound : List ℕ)
    (rows : Counted) : Type 0 where
  pub width_is : width ≡ long
  pub key_is : key ≡ bound
  pub fit : AreFit long bound rows
  pub stands : Stands (rows_of rows)

-- and one on two
pub record StandsForBoth (width : ℕ) (key : List ℕ) (Stands : List (Cells Term) → List (Cells Term) → Type 0) (long : ℕ)
    (bound : List ℕ) (lefts : Counted) (long' : ℕ) (bound' : List ℕ) (rights : Counted) : Type 0 where
  pub left_width : width ≡ long
  pub left_key : key ≡ bound
  pub left_fit : AreFit long bound lefts
  pub right_width : width ≡ long'
  pub right_key : key ≡ bound'
  pub right_fit : AreFit long' bound' rights
  pub stands : Stands (rows_of lefts) (rows_of rights)
