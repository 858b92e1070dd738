-- Definitions: what a write does to the bytes that a sink has taken and to its room, where it tells them.
use Rattle.std.specs.Prelude.{◌≡◌, ℕ, ◌+◌, List, take, Option, Some, None, Result, MatchResult, ⊤}
use Rattle.std.specs.Io.KnownBytes.{Appends}

-- `Ok n`: the first n bytes of the piece were appended; `Err`: nothing was
abbrev pub WriteAppends : {E : Type 0} → Option (List ℕ) → Option (List ℕ) → Result ℕ E → List ℕ → Type 0
WriteAppends before after result piece =
    MatchResult result (λ n. Appends before after (take n piece)) (λ _. after ≡ before)

-- room that is told stays told, and is n bytes less
abbrev pub Lowers : Option ℕ → Option ℕ → ℕ → Type 0
Lowers None after n = ⊤
Lowers (Some room) None n = ⊥
Lowers (Some room) (Some rest) n = room ≡ rest + n

-- `Ok n`: the room is n bytes less; `Err`: it is as it was
abbrev pub RoomFalls : {E : Type 0} → Option ℕ → Option ℕ → Result ℕ E → Type 0
RoomFalls before after result = MatchResult result (λ n. Lowers before after n) (λ _. after ≡ before)
