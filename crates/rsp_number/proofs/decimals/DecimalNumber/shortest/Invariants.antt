use Rattle.std.specs.Prelude.{◌≡◌, ◌≤◌}
use Rattle.rsp_number.specs.Decimals.{shortest_form, largest, most_digits}
use Rattle.rsp_number.proofs.decimals.DecimalNumber.shortest.Given as goal

abbrev pub invariant-loop-digits : goal.invariant-loop-digits
invariant-loop-digits l = record {
  same : shortest_form l.negative l.rest l.digits ≡ shortest_form l.negative l.size l.scale;
  size_fits : l.rest ≤ largest;
  scale_fits : l.digits ≤ most_digits;
}

abbrev pub decreases-loop-digits : goal.decreases-loop-digits
decreases-loop-digits l = l.digits
