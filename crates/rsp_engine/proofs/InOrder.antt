-- Times in order with one more at its place.
use Rattle.std.proofs.Common.{◌≡◌, ℕ, ◌-◌, ◌<◌, ◌≤◌, true, false, Some, List, [], ◌∷◌, ◌++◌, get_or, length, slice_get, refl, sym, ap, ◌∙◌, arith}
use Rattle.std.specs.Prelude.{nat_le}
use Rattle.std.specs.List.{All, insert}
use Rattle.std.specs.List.Sorted.{IsNonDecreasing, IsPartitionPoint, IsPermutation}
use Rattle.std.proofs.lemmas.Bool.{leb-false, leb-true}
use Rattle.std.proofs.lemmas.List.Elements.{All-cons}
use Rattle.std.proofs.lemmas.List.Sorted.{All-permutation, Contains-permutation, IsNonDecreasingBy-insert, IsPermutation-sym, IsPermutation-to_front}
use Rattle.std.proofs.lemmas.Option.{slice_get-get_or}

-- at the end
pub pushed_moved : (times : List ℕ) (time : ℕ) → IsPermutation (time ∷ times) (times ++ time ∷ [])
pushed_moved times time = IsPermutation-sym (times ++ time ∷ []) (time ∷ times) (IsPermutation-to_front times time)

-- behind those that aren't later, and before those that are
pub inserted_sorted : (times : List ℕ) (time place : ℕ) → IsNonDecreasing times → place ≤ length times
    → IsPartitionPoint (λ t. nat_le t time ≡ true) (λ t. nat_le t time ≡ false) times place → IsNonDecreasing (insert times place time)
inserted_sorted times time place sorted within point =
    IsNonDecreasingBy-insert (λ t. t) times place time sorted within
    (λ k d less. leb-true _ _ (point.0 k d (omega arith) less))
    (λ k d more inside. let later = leb-false _ _ (point.1 k d more inside) in omega (arith, later))

-- it is the last, where none is later
pub last_put : (times new : List ℕ) (time : ℕ) → All (λ t. t ≤ time) times → IsPermutation (time ∷ times) new → IsNonDecreasing new
    → slice_get new (length new - 1) ≡ Some time
last_put times new time early put sorted =
    let found = Contains-permutation (time ∷ times) new time put (0, omega arith, refl) in
    let within : length new - 1 < length new = omega (arith, found.1) in
    let low : get_or new found.0 time ≤ get_or new (length new - 1) time =
    sorted found.0 (length new - 1) time (omega (arith, found.1)) within in
    let high : get_or new (length new - 1) time ≤ time =
    All-permutation (λ t. t ≤ time) (time ∷ times) new put (All-cons (λ t. t ≤ time) time times (omega arith) early) (length new - 1) time within in
    let there : get_or new found.0 time ≡ time = found.2 in
    let is : get_or new (length new - 1) time ≡ time = omega (arith, there, low, high) in
    slice_get-get_or new (length new - 1) time within ∙ ap Some is
