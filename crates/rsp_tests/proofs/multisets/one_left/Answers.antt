use Rattle.std.proofs.Common.{◌+ℤ◌, ◌≤ℤ◌, pos, negsuc, Bool, true, false, [], ◌∷◌, Some, None, ◌∙◌, arith, nat_eq}
use Rattle.std.proofs.lemmas.Int.{ints}
use Rattle.rsp_multiset.specs.Rows.{row_eq}
use Rattle.rsp_multiset.specs.Weights.{weight, only}
use Rattle.rsp_tests.proofs.multisets.one_left.Goals as goal

left : (b : Bool) → pos 0 ≤ℤ ((pos 0 +ℤ only b (pos 3)) +ℤ (pos 0 +ℤ only b (negsuc 1)))
left true = omega (arith, ints)
left false = omega (arith, ints)

pub apply-requires : goal.apply-requires
apply-requires c q =
    let there = c.in_ok-add.ensures.ok q ∙ (λ i. weight (row_eq nat_eq) (c.new-bag.ensures i) q +ℤ only (row_eq nat_eq q (c.in_ok-row.ensures i)) (pos 3)) in
    let gone = c.in_ok-alter.ensures.ok q ∙ (λ i. weight (row_eq nat_eq) (c.new-changes.ensures i) q +ℤ only (row_eq nat_eq q (c.in_ok-row-2.ensures i)) (negsuc 1)) in
    let k = left (row_eq nat_eq q (Some 1 ∷ None ∷ [])) in
    omega (arith, ints)
