-- The floor of a fraction is the greatest whole number that is not above it.
use Rattle.std.specs.Prelude.{◌≡◌, ℕ, ◌+◌, ◌*◌, ◌/◌, ◌<◌, ◌≤◌, ℤ, pos, negsuc, ◌+ℤ◌, ◌*ℤ◌, ◌≤ℤ◌, ◌<ℤ◌, refl}
use Rattle.std.specs.Int.{int_div_euclid}
use Rattle.std.proofs.Common.{sym, ◌∙◌, ap, subst, arith}
use Rattle.std.proofs.lemmas.Int.{ints}
use Rattle.std.proofs.lemmas.Nat.{div-add-mod', mod_below}
use Rattle.std.proofs.Math.Nat.{add-mul, one-mul}
use borrow.Author.Differences.{up, down}
use Rattle.rsp_number.specs.Numbers.{Fraction, floor_of}
use Rattle.rsp_number.specs.SecondReadings.{IsFloor}
use Rattle.rsp_number.proofs.Summing.{up-times, down-times}

at-most : (n : ℤ) (d : ℕ) → 0 < d → (int_div_euclid n (pos d) *ℤ pos d) ≤ℤ n
at-most (pos a) d positive =
    let split = div-add-mod' a d in
    omega (arith, ints)
at-most (negsuc a) d positive =
    let split = div-add-mod' a d in
    let below = mod_below a d positive in
    let product : (a / d + 1) * d ≡ a / d * d + d = add-mul (a / d) 1 d ∙ ap (λ x. a / d * d + x) (one-mul d) in
    omega (arith, ints, up-times (negsuc (a / d)) d, down-times (negsuc (a / d)) d)

one-more : (x z : ℤ) → z ≡ x +ℤ pos 1 → up z + down x ≡ up x + 1 + down z
one-more x z is = omega (arith, ints)

-- one more than -(q + 1) is -q
neg-next : (q : ℕ) → up (negsuc q +ℤ pos 1) + q ≡ down (negsuc q +ℤ pos 1)
neg-next q = let sum = one-more (negsuc q) (negsuc q +ℤ pos 1) refl in omega arith

next-above : (n : ℤ) (d : ℕ) → 0 < d → n <ℤ ((int_div_euclid n (pos d) +ℤ pos 1) *ℤ pos d)
next-above (pos a) d positive =
    let split = div-add-mod' a d in
    let below = mod_below a d positive in
    let product : (a / d + 1) * d ≡ a / d * d + d = add-mul (a / d) 1 d ∙ ap (λ x. a / d * d + x) (one-mul d) in
    omega (arith, ints)
next-above (negsuc a) d positive =
    let split = div-add-mod' a d in
    let next : ℤ = negsuc (a / d) +ℤ pos 1 in
    let product : up next * d + a / d * d ≡ down next * d = sym (add-mul (up next) (a / d) d) ∙ ap (λ x. x * d) (neg-next (a / d)) in
    omega (arith, ints, product, split, up-times next d, down-times next d)

floor-law : (x : Fraction) → 0 < x.denominator → IsFloor x (floor_of x)
floor-law x positive = record { at_most = at-most x.numerator x.denominator positive; next_above = next-above x.numerator x.denominator positive }

pub floor-law-from : (x : Fraction) (m f r : ℤ) (d : ℕ) → r ≡ f → f ≡ int_div_euclid m (pos d) → m ≡ x.numerator → d ≡ x.denominator → 1 ≤ d → IsFloor x r
floor-law-from x m f r d same is above below positive =
    let whole : r ≡ floor_of x = same ∙ is ∙ (λ i. int_div_euclid (above i) (pos (below i))) in
    subst (λ n. IsFloor x n) (sym whole) (floor-law x (rw (← below) positive))
