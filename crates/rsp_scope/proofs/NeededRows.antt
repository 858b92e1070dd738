-- Worked rows: up to when windows of 10 ms every 5 ms need an item, and windows of 2 ms every 5 ms.
use Rattle.std.proofs.Common.{◌≡◌, ℕ, true, false, [], ◌∷◌, refl}
use Rattle.rsp_spec.specs.Windows.{Shape}
use Rattle.rsp_spec.proofs.WindowRows.{apart, overlapping}
use Rattle.rsp_scope.specs.Contents.{Accepted, Numbered, Watch}
use Rattle.rsp_scope.specs.Needed.{is_needed, needed_items}

abbrev watch : Shape → ℕ → Watch
watch shape first = record { shape = shape; spot = 0; stream = 115 ∷ []; first = first }

abbrev came : ℕ → Accepted
came time = record { stream = 115 ∷ []; time = time; graph = [] }

abbrev entry : ℕ → Numbered
entry time = record { number = 3; item = came time }

-- an item is needed at the last closing of a window that contains it, and not after it
last : is_needed 15 (watch overlapping 0 ∷ []) (entry 6) ≡ true
last = refl

past : is_needed 16 (watch overlapping 0 ∷ []) (entry 6) ≡ false
past = refl

-- the window that opens at its time doesn't need it
opening : needed_items 11 (watch overlapping 0 ∷ []) (came 5 ∷ came 6 ∷ []) ≡ record { number = 1; item = came 6 } ∷ []
opening = refl

-- in a gap between windows none does, nor one that sees later items alone, nor one of another stream
gap : is_needed 0 (watch apart 0 ∷ []) (entry 3) ≡ false
gap = refl

later : is_needed 0 (watch overlapping 4 ∷ []) (entry 6) ≡ false
later = refl

other : is_needed 0 (record (watch overlapping 0) { stream = 116 ∷ [] } ∷ []) (entry 6) ≡ false
other = refl

-- one of several is enough
either : is_needed 15 (watch apart 0 ∷ watch overlapping 3 ∷ []) (entry 6) ≡ true
either = refl
