use Rattle.std.proofs.Common.{◌≡◌, ◌≤◌, ◌^◌, true, drop}
use Rattle.std.specs.Prelude.{min}
use Rattle.rsp_number.specs.Texts.{are_digits, number_after}
use Rattle.rsp_literals.proofs.forms.size_up_to_bound.Given as goal

abbrev pub invariant-loop-digit : goal.invariant-loop-digit
invariant-loop-digit l = record {
  within : l.size ≤ 2 ^ 64;
  digits : are_digits (drop l.digit-index l.digits) ≡ true;
  value : min (number_after l.size (drop l.digit-index l.digits)) (2 ^ 64) ≡ min (number_after 0 l.digits) (2 ^ 64);
}
