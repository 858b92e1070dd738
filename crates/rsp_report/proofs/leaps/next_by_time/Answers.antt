use Rattle.rsp_report.proofs.Agreement.{closings_by_time}
use Rattle.rsp_report.proofs.leaps.next_by_time.Goals as goal

pub returns-then-policy : goal.returns-then-policy
returns-then-policy c =
    closings_by_time c.args.policy.now c.args.watched.now c.period_of-period.result _ _ _ c.if-policy.true c.period_of-period.ensures.alike c.next_of_some.ensures
