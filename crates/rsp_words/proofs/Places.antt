-- What stands at a place of a list.
use Rattle.std.proofs.Common.{◌≡◌, ℕ, suc, ◌+◌, List, ◌∷◌, length, drop, Option, None, Some, refl, sym, arith}
use Rattle.std.proofs.lemmas.List.{drop_more}
use Rattle.std.proofs.lemmas.Option.{get_or_from_slice_get, slice_get_past, slice_get_read, slice_get_within}
use Rattle.std.specs.Borrow.{Bor}
use Rattle.std.specs.List.{slice_get}
use Rattle.std.specs.Option.{option_copied}
use Rattle.std.specs.Slice.{IsItemAt}

-- what `get` lends
pub found_at : {X : Type 0} (xs : List X) (k : ℕ) (found : Option (Bor X)) → IsItemAt xs k found → option_copied found ≡ slice_get xs k
found_at xs k None is = sym (slice_get_past xs k is.3)
found_at xs k (Some x) is = sym (slice_get_read xs (length xs) k x.now refl is.3.0 is.1)

pub behind_place : {X : Type 0} (xs : List X) (k : ℕ) (x : X) → slice_get xs k ≡ Some x → drop k xs ≡ x ∷ drop (k + 1) xs
behind_place xs k x is = rw (← get_or_from_slice_get xs k x x is) (drop_more xs k x (slice_get_within xs k x is))

-- behind the first
pub after_first : {X : Type 0} (x : X) (xs : List X) (k n : ℕ) → n ≡ k + 1 → slice_get (x ∷ xs) n ≡ slice_get xs k
after_first x xs k n is = let next : n ≡ suc k = omega (arith, is) in rw next refl
