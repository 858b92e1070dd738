-- Words of the way: what came to and went from the stored quads since a query looked at them.
use Rattle.std.specs.Prelude.{ℕ, nat_lt, List, ℤ}
use Rattle.rsp_multiset.specs.Weights.{sum_z, only, weight}
use Rattle.rsp_terms.specs.declared.statement.Fact.{Fact}
use Rattle.rsp_terms.specs.Same.{fact_eq}
use Rattle.rsp_scope.specs.declared.pieces.Piece.{Piece}

-- what a log keeps, and the place behind all that was logged
pub record Log : Type 0 where
  pub pieces : List Piece
  pub end : ℕ

-- how often the fact came, less how often it went, in the pieces that end behind a place
abbrev pub pieces_since : List Piece → ℕ → Fact → ℤ
pieces_since pieces place q =
    sum_z (λ (piece : Piece). only (nat_lt place piece.end) (weight fact_eq piece.changes q)) pieces

-- and in all that was logged from the place on
abbrev pub since : Log → ℕ → Fact → ℤ
since log place q = pieces_since log.pieces place q
