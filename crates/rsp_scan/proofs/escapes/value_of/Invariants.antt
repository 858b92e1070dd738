use Rattle.std.proofs.Common.{◌≡◌, ◌<◌, ◌^◌, true, drop}
use Rattle.std.specs.Char.{is_ascii_hexdigit}
use Rattle.std.specs.List.{list_all}
use Rattle.std.specs.Str.Parse.{digits_value, digits_value_after}
use Rattle.rsp_scan.proofs.escapes.value_of.Given as goal

abbrev pub invariant-loop-digit : goal.invariant-loop-digit
invariant-loop-digit l = record {
  value : digits_value_after 16 l.value (drop l.digit-index l.digits) ≡ digits_value 16 l.digits;
  digits : list_all is_ascii_hexdigit (drop l.digit-index l.digits) ≡ true;
  small : l.value < 16 ^ l.digit-index;
}
