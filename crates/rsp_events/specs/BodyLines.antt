-- Words of the way: what reading some lines of a body answers.
use Rattle.std.specs.Prelude.{◌≡◌, ℕ, Bool, true, false, Ok, Err, Result, List}
use Rattle.std.specs.List.{list_any, position_or_len}

-- all is good, or the place of the first bad line
abbrev pub IsRead : {A : Type 0} → (List ℕ → Bool) → List (List ℕ) → A → Result A ℕ → Type 0
IsRead bad lines value (Ok read) = (list_any bad lines ≡ false) × (read ≡ value)
IsRead bad lines value (Err place) = (list_any bad lines ≡ true) × (place ≡ position_or_len bad lines)
