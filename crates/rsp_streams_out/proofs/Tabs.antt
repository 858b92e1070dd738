-- Pieces joined by tabs, as a loop writes them: the first, then each further one behind a tab.
use Rattle.std.proofs.Common.{◌≡◌, ℕ, List, [], ◌∷◌, ◌++◌, ap, ◌∙◌, append_assoc}
use Rattle.std.proofs.lemmas.List.{append-nil}
use Rattle.std.specs.List.{join_with_byte}

abbrev pub after_tabs : List (List ℕ) → List ℕ
after_tabs [] = []
after_tabs (piece ∷ pieces) = 9 ∷ (piece ++ after_tabs pieces)

joined : (piece : List ℕ) (pieces : List (List ℕ)) → piece ++ after_tabs pieces ≡ join_with_byte 9 (piece ∷ pieces)
joined piece [] = append-nil piece
joined piece (next ∷ pieces) = ap (λ text. piece ++ 9 ∷ text) (joined next pieces)

pub first_written : (before piece : List ℕ) (pieces : List (List ℕ))
    → (before ++ piece) ++ after_tabs pieces ≡ before ++ join_with_byte 9 (piece ∷ pieces)
first_written before piece pieces =
    append_assoc before piece (after_tabs pieces) ∙ ap (λ text. before ++ text) (joined piece pieces)
