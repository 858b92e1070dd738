use Rattle.std.proofs.Common.{◌≡◌, drop}
use Rattle.rsp_report.specs.Leaps.{some_window, closes}
use Rattle.rsp_report.proofs.instants.some_closes.Given as goal

abbrev pub invariant-loop-one : goal.invariant-loop-one
invariant-loop-one l = some_window (closes l.t) (drop l.one-index l.watched) ≡ some_window (closes l.t) l.watched
