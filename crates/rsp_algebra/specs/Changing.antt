-- Words of the way: what may be changed in a set of facts, and what a change of a tree's solutions answers.
use Rattle.std.specs.Prelude.{◌≡◌, ◌⊎◌, Bool, true, false, ⊤, Result, Ok, Err, List, ℤ, pos, negsuc}
use Rattle.std.specs.List.{IsDistinct}
use Rattle.rsp_multiset.specs.Weights.{weight, times}
use Rattle.rsp_multiset.specs.Rows.{Cells}
use Rattle.rsp_terms.specs.declared.term.Term.{Term}
use Rattle.rsp_terms.specs.declared.statement.Fact.{Fact}
use Rattle.rsp_terms.specs.Same.{fact_eq}
use Rattle.rsp_algebra.specs.declared.answer.Turn.{Turn}
use Rattle.rsp_algebra.specs.declared.answer.Turn.TheVariants.{Net, Overfull}

-- each fact stands at most once
abbrev pub IsSet : List Fact → Type 0
IsSet facts = IsDistinct fact_eq facts

-- each fact that comes is absent and comes once, and each that goes is there
abbrev pub MayChange : List Fact → List (Fact × ℤ) → Type 0
MayChange facts changes =
    (q : Fact)
    → (weight fact_eq changes q ≡ pos 0)
    ⊎ (((weight fact_eq changes q ≡ pos 1) × (times fact_eq facts q ≡ pos 0))
    ⊎ ((weight fact_eq changes q ≡ negsuc 0) × (times fact_eq facts q ≡ pos 1)))

abbrev pub is_overfull : Turn → Bool
is_overfull (Net _) = false
is_overfull Overfull = true

-- P of the change of the solutions, where one is answered
abbrev pub IfNet : Turn → (List (Cells Term × ℤ) → Type 0) → Type 0
IfNet (Net net) P = P net
IfNet Overfull P = ⊤

-- neither overfull nor want of memory
abbrev pub goes_on : {E : Type 0} → Result Turn E → Bool
goes_on (Ok (Net _)) = true
goes_on (Ok Overfull) = false
goes_on (Err _) = false
