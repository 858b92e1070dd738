use Rattle.std.proofs.Common.{◌≡◌, drop}
use Rattle.rsp_report.specs.Due.{changes}
use Rattle.rsp_report.specs.Leaps.{some_window}
use Rattle.rsp_report.proofs.instants.some_changes.Given as goal

abbrev pub invariant-loop-one : goal.invariant-loop-one
invariant-loop-one l = some_window (changes l.t) (drop l.one-index l.watched) ≡ some_window (changes l.t) l.watched
