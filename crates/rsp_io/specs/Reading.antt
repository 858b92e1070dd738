-- Definitions: what a read does to the bytes that a source has left, where it tells them, and to the number of bytes given.
use Rattle.std.specs.Prelude.{◌≡◌, ℕ, ◌+◌, ◌-◌, ◌^◌, min, List, take, Option, Result, MatchResult}
use Rattle.std.specs.Io.KnownBytes.{Consumes, IsAtEnd}

-- `Ok n`: the first n bytes of the buffer were the next ones, and none only where nothing is left; `Err`: nothing was taken
abbrev pub ReadTakes : {E : Type 0} → Option (List ℕ) → Option (List ℕ) → Result ℕ E → List ℕ → Type 0
ReadTakes before after result buffer =
    MatchResult result (λ n. Consumes before after (take n buffer) × (n ≡ 0 → IsAtEnd after)) (λ _. after ≡ before)

-- the number of bytes given, after n more; it stops at its type's end
abbrev pub given_after : ℕ → ℕ → ℕ
given_after given n = min (given + n) (2 ^ 64 - 1)

-- the number of bytes given rose by those of this read
abbrev pub GivenRises : {E : Type 0} → ℕ → ℕ → Result ℕ E → Type 0
GivenRises before after result = MatchResult result (λ n. after ≡ given_after before n) (λ _. after ≡ before)
