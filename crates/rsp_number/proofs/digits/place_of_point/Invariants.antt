use Rattle.std.proofs.Common.{◌≡◌, ◌++◌, take, drop}
use Rattle.rsp_number.specs.Texts.{before_point, behind_point}
use Rattle.rsp_number.proofs.digits.place_of_point.Given as goal

abbrev pub invariant-loop-place : goal.invariant-loop-place
invariant-loop-place l = record {
  before : take l.place l.text ++ before_point (drop l.place l.text) ≡ before_point l.text;
  behind : behind_point (drop l.place l.text) ≡ behind_point l.text;
}
