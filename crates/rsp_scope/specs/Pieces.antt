-- Words of the way: what the pieces of a log say.
use Rattle.std.specs.Prelude.{◌≡◌, ℕ, ◌≤◌, List}
use Rattle.std.specs.List.{AllByRecursion, Contains}
use Rattle.rsp_terms.specs.declared.statement.Fact.{Fact}
use Rattle.rsp_scope.specs.Logged.{pieces_since}
use Rattle.rsp_scope.specs.declared.pieces.Piece.{Piece}

-- from each of the places they say the same
abbrev pub AreAlike : List ℕ → List Piece → List Piece → Type 0
AreAlike places before after =
    (place : ℕ) → Contains places place → (q : Fact) → pieces_since after place q ≡ pieces_since before place q

-- none ends behind this place
abbrev pub EndBy : ℕ → List Piece → Type 0
EndBy place pieces = AllByRecursion (λ (piece : Piece). piece.end ≤ place) pieces
