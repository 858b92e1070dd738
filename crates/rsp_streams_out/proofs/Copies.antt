-- How often a list holds a row, where copies of a row are put at its end.
use Rattle.std.proofs.Common.{◌≡◌, ℕ, ◌+◌, Bool, true, false, List, [], ◌∷◌, ◌++◌, ℤ, pos, ◌+ℤ◌, arith}
use Rattle.std.proofs.lemmas.Int.{ints}
use Rattle.rsp_multiset.specs.Weights.{only, times}
use Rattle.rsp_multiset.proofs.Sums.{sum_z-append}

one_more : (b : Bool) (n : ℕ) → only b (pos n) +ℤ only b (pos 1) ≡ only b (pos (n + 1))
one_more true n = omega (arith, ints)
one_more false n = omega (arith, ints)

pub copied : {E : Type 0} (eq : E → E → Bool) (xs : List E) (x q : E) (n : ℕ) (before : ℤ)
    → times eq xs q ≡ before +ℤ only (eq q x) (pos n) → times eq (xs ++ x ∷ []) q ≡ before +ℤ only (eq q x) (pos (n + 1))
copied eq xs x q n before held =
    let split = sum_z-append (λ y. only (eq q y) (pos 1)) xs (x ∷ []) in
    let more = one_more (eq q x) n in
    omega (arith, ints, held, split, more)
