-- Words of the way: what putting quads into the store answers, before they are counted where memory is refused.
use Rattle.std.specs.Prelude.{◌≡◌, ◌<◌, ⊤, ℕ}
use Rattle.rsp_spec.specs.Limits.{most_quads}
use Rattle.rsp_scope.specs.declared.stored.StoredFault.{StoredFault}
use Rattle.rsp_scope.specs.declared.stored.StoredFault.TheVariants.{StoreFull, OutOfMemory}

-- so many would be stored, which are too many; or memory was refused
abbrev pub IsUncounted : ℕ → StoredFault → Type 0
IsUncounted many (StoreFull quads) = (quads ≡ many) × (most_quads < many)
IsUncounted many OutOfMemory = ⊤
