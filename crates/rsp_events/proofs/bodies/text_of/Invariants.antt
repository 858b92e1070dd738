use Rattle.std.specs.String.{string_bytes}
use Rattle.rsp_events.specs.Contents.{is_bad_text, with_line_feed}
use Rattle.rsp_events.proofs.Going.{Went}
use Rattle.rsp_events.proofs.bodies.text_of.Given as goal

abbrev pub invariant-loop-place : goal.invariant-loop-place
invariant-loop-place l = Went with_line_feed is_bad_text l.lines l.place (string_bytes l.text)
