-- Words of the way: what an answer was given, and what may come next.
use Rattle.std.specs.Prelude.{◌≡◌, ◌⊎◌, Bool, false, List, ℤ, pos, negsuc}
use Rattle.std.specs.List.{AllByRecursion}
use Rattle.rsp_multiset.specs.Weights.{weight, Holds}
use Rattle.rsp_terms.specs.declared.statement.Fact.{Fact}
use Rattle.rsp_terms.specs.Same.{fact_eq}

-- the answer isn't spent, and has the facts that it was given
pub record Follows (spent : Bool) (facts : List Fact) (given : List (Fact × ℤ)) : Type 0 where
  pub ready : spent ≡ false
  pub held : Holds fact_eq given facts

-- the fact comes where it isn't, or goes where it is
abbrev pub Turns : List (Fact × ℤ) → List (Fact × ℤ) → Fact → Type 0
Turns given changes fact =
    ((weight fact_eq changes fact ≡ pos 1) × (weight fact_eq given fact ≡ pos 0))
    ⊎ ((weight fact_eq changes fact ≡ negsuc 0) × (weight fact_eq given fact ≡ pos 1))

-- each of the changes does
abbrev pub MayTurn : List (Fact × ℤ) → List (Fact × ℤ) → Type 0
MayTurn given changes = AllByRecursion (λ (e : Fact × ℤ). Turns given changes e.0) changes
