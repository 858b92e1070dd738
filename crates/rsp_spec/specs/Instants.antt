-- Definitions: the least of the instants from one to another at which something holds.
use Rattle.std.specs.Prelude.{ℕ, ◌≤◌, Option, None, Some}

-- none only where it holds at no instant of them
abbrev pub IsLeastIn : (ℕ → Type 0) → ℕ → ℕ → Option ℕ → Type 0
IsLeastIn p from to None = (t : ℕ) → from ≤ t → t ≤ to → p t → ⊥
IsLeastIn p from to (Some least) = (from ≤ least) × (least ≤ to) × p least × ((t : ℕ) → from ≤ t → p t → least ≤ t)
