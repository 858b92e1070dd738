use Rattle.std.proofs.Common.{◌≡◌, ◌≤◌, ◌*◌, ◌%◌, ◌^◌}
use Rattle.rsp_number.specs.Decimals.{cut, largest}
use Rattle.rsp_number.proofs.fit.fit_size.Given as goal

abbrev pub invariant-loop-scale : goal.invariant-loop-scale
invariant-loop-scale l = record {
  size : l.size ≡ cut l.numerator l.denominator l.scale;
  rest : l.rest ≡ l.numerator * 10 ^ l.scale % l.denominator;
  fits : l.size ≤ largest;
}
