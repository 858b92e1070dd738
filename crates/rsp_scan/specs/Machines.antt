-- Words of the way: automata, by which longest fronts are found in one pass.
use Rattle.std.specs.Prelude.{ℕ, Bool, false, Option, List, [], ◌∷◌}
use Rattle.std.specs.Option.{option_map_or}

-- the state behind each item, and the states in which a text may end
pub record Machine (S : Type 0) : Type 0 where
  pub step : S → ℕ → Option S
  pub ends : S → Bool

-- whether the items are read to their end, and may end there
abbrev pub accepts : {S : Type 0} → Machine S → S → List ℕ → Bool
accepts m s [] = m.ends s
accepts m s (c ∷ cs) = option_map_or (λ t. accepts m t cs) (m.step s c) false
