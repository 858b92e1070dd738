use Rattle.std.proofs.Common.{◌≡◌, true, take}
use Rattle.rsp_spec.specs.Instants.{IsLeastIn}
use Rattle.rsp_report.specs.Leaps.{some_window}
use Rattle.rsp_report.specs.Leaps.{asks}
use Rattle.rsp_report.proofs.leaps.next_of_some.Given as goal

abbrev pub invariant-loop-one : goal.invariant-loop-one
invariant-loop-one l = IsLeastIn (λ t. some_window (asks l.question t) (take l.one-index l.watched) ≡ true) l.from l.to l.best
