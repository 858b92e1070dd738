-- Definitions: copies of one value.
use Rattle.std.specs.Prelude.{ℕ, zero, suc, List, [], ◌∷◌}

-- the value, so many times
abbrev pub copies : {E : Type 0} → ℕ → E → List E
copies zero x = []
copies (suc n) x = x ∷ copies n x
