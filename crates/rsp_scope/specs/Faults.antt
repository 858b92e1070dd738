-- Definitions: when stored quads are refused.
use Rattle.std.specs.Prelude.{◌≡◌, ◌<◌, ◌≤◌, ℕ}
use Rattle.rsp_spec.specs.Limits.{most_quads}
use Rattle.rsp_scope.specs.declared.stored.StoredFault.{StoredFault}
use Rattle.rsp_scope.specs.declared.stored.StoredFault.TheVariants.{StoreFull, OutOfMemory}

-- a refusal for too many says how many they would be; memory is wanted only where they would fit
abbrev pub IsStoredFault : ℕ → StoredFault → Type 0
IsStoredFault many (StoreFull quads) = (quads ≡ many) × (most_quads < many)
IsStoredFault many OutOfMemory = many ≤ most_quads
