use Rattle.rsp_report.specs.Due.{changes}
use Rattle.rsp_report.specs.Leaps.{some_window}
use Rattle.rsp_report.proofs.Agreement.{asked_alike}
use Rattle.rsp_report.proofs.leaps.next_by_change.Goals as goal

pub returns-then-policy : goal.returns-then-policy
returns-then-policy c = asked_alike _ (λ t. some_window (changes t) c.args.watched.now) _ _ _ c.if-policy.true c.next_of_some.ensures
