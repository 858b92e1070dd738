use Rattle.std.proofs.Common.{◌≡◌, length}
use Rattle.rsp_events.specs.FileLines.{lines_from}
use Rattle.rsp_events.specs.Openings.{recorded_by}
use Rattle.rsp_events.specs.Recording.{outcome}
use Rattle.rsp_events.proofs.recording.lines_recorded.Given as goal

abbrev pub invariant-lines : goal.invariant-lines
invariant-lines l =
    outcome l.stream l.document l.reading (lines_from l.number l.rest) ≡ recorded_by l.stream l.document l.bytes

abbrev pub decreases-lines : goal.decreases-lines
decreases-lines l = length l.rest
