use Rattle.std.proofs.Common.{◌≡◌, ◌≤◌, ◌+◌, length, take}
use Rattle.rsp_scope.specs.Quads.{stored_with}
use Rattle.rsp_scope.proofs.room.new_quads.Given as goal

abbrev pub invariant-loop-place : goal.invariant-loop-place
invariant-loop-place l = record {
  counted : length (stored_with l.facts (take l.place l.quads)) ≡ length l.facts + l.new;
  few : l.new ≤ l.place;
}
