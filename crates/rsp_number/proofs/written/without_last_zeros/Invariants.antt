use Rattle.std.proofs.Common.{◌≡◌, Bool, true, ℕ, length}
use Rattle.rsp_number.specs.Decimals.{shortest_form}
use Rattle.rsp_number.specs.Texts.{are_digits, number_after}
use Rattle.rsp_number.proofs.written.without_last_zeros.Given as goal

abbrev pub invariant-loop-last : goal.invariant-loop-last
invariant-loop-last l = record {
  digits : are_digits l.digits ≡ true;
  same : (negative : Bool) (n : ℕ) → shortest_form negative (number_after n l.fraction) (length l.fraction)
      ≡ shortest_form negative (number_after n l.digits) (length l.digits);
}

abbrev pub decreases-loop-last : goal.decreases-loop-last
decreases-loop-last l = length l.digits
