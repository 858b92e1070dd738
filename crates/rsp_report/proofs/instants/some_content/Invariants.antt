use Rattle.std.proofs.Common.{◌≡◌, drop}
use Rattle.rsp_report.specs.Due.{has_content}
use Rattle.rsp_report.specs.Leaps.{some_window}
use Rattle.rsp_report.proofs.instants.some_content.Given as goal

abbrev pub invariant-loop-one : goal.invariant-loop-one
invariant-loop-one l = some_window (has_content l.t) (drop l.one-index l.watched) ≡ some_window (has_content l.t) l.watched
