use Rattle.std.proofs.Common.{◌≡◌, drop}
use Rattle.std.specs.Cmp.Lexicographic.{pointwise}
use Rattle.rsp_text.specs.Digits.{is_written_like}
use Rattle.rsp_text.proofs.digits.has_form.Given as goal

abbrev pub invariant-loop-place : goal.invariant-loop-place
invariant-loop-place l =
    pointwise is_written_like (drop l.place l.model) (drop l.place l.text) ≡ pointwise is_written_like l.model l.text
