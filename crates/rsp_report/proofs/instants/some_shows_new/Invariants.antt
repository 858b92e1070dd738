use Rattle.std.proofs.Common.{◌≡◌, drop}
use Rattle.rsp_report.specs.Due.{shows_new}
use Rattle.rsp_report.specs.Leaps.{some_window}
use Rattle.rsp_report.proofs.instants.some_shows_new.Given as goal

abbrev pub invariant-loop-one : goal.invariant-loop-one
invariant-loop-one l = some_window (shows_new l.t) (drop l.one-index l.watched) ≡ some_window (shows_new l.t) l.watched
