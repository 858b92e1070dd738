use Rattle.std.proofs.Common.{◌-◌, length}
use Rattle.rsp_modes.proofs.Recorded.{Recording}
use Rattle.rsp_modes.proofs.run.recordings.Given as goal

abbrev pub invariant-files : goal.invariant-files
invariant-files l = Recording l.first l.streams l.files l.fn.before l.lines l.lists l.document l.place

abbrev pub decreases-files : goal.decreases-files
decreases-files l = length l.streams - l.place
