-- Definitions: the aggregates of groups by their variables.
use Rattle.std.specs.Prelude.{ℕ, List, map}

-- each aggregate beside the variable that has its value
abbrev pub by_variable : {A : Type 0} → (A → ℕ) → List A → List (ℕ × A)
by_variable {A} variable aggregates = map {B = ℕ × A} (λ a. (variable a, a)) aggregates
