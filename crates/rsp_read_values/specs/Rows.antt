-- Words of the way: rows of VALUES, and names that are new.
use Rattle.std.specs.Prelude.{ℕ, zero, suc, Bool, false, not, List, [], ◌∷◌, Option, None, Some}
use Rattle.std.specs.List.{list_any}
use Rattle.std.specs.Str.{bytes_eq}
use Rattle.rsp_phrases.specs.Readers.{Reader, nothing_read, mapped_read, both_read}
use Rattle.rsp_written.specs.declared.said.Said.{Said}

-- a value as a row of its own
abbrev pub one_value : {A : Type 0} → A → List (List A)
one_value value = (value ∷ []) ∷ []

-- it, so many times
unfoldable pub so_many_read : {A : Type 0} → Reader Said A → ℕ → Reader Said (List A)
so_many_read r zero = nothing_read []
so_many_read r (suc n) = mapped_read (λ (v : _ × _). v.0 ∷ v.1) (both_read r (so_many_read r n))

-- whether it is there and isn't among these
abbrev pub is_new : List (List ℕ) → Option (List ℕ) → Bool
is_new there None = false
is_new there (Some name) = not (list_any (bytes_eq name) there)
