use Rattle.std.proofs.Common.{◌≡◌, drop}
use Rattle.rsp_number.specs.Texts.{are_digits}
use Rattle.rsp_number.proofs.digits.are_digits.Given as goal

abbrev pub invariant-loop-byte : goal.invariant-loop-byte
invariant-loop-byte l = are_digits (drop l.byte-index l.text) ≡ are_digits l.text
