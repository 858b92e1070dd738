use Rattle.std.proofs.Common.{◌≡◌, ◌≤◌, true, drop}
use Rattle.rsp_number.specs.Decimals.{largest}
use Rattle.rsp_number.specs.Texts.{are_digits, number_after}
use Rattle.rsp_number.proofs.written.size_after.Given as goal

abbrev pub invariant-loop-digit : goal.invariant-loop-digit
invariant-loop-digit l = record {
  rest : number_after l.size (drop l.digit-index l.digits) ≡ number_after l.before l.digits;
  digits : are_digits (drop l.digit-index l.digits) ≡ true;
  fits : l.size ≤ largest;
}
