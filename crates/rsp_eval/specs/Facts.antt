-- Words of the way: a change of one fact in a set.
use Rattle.std.specs.Prelude.{◌≡◌, ◌⊎◌, List, ℤ, pos, negsuc}
use Rattle.rsp_multiset.specs.Weights.{times}
use Rattle.rsp_terms.specs.declared.statement.Fact.{Fact}
use Rattle.rsp_terms.specs.Same.{fact_eq}

-- the fact comes and is absent, or it goes and is there
abbrev pub MayCome : List Fact → Fact → ℤ → Type 0
MayCome facts fact by =
    ((by ≡ pos 1) × (times fact_eq facts fact ≡ pos 0)) ⊎ ((by ≡ negsuc 0) × (times fact_eq facts fact ≡ pos 1))
