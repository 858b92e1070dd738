use Rattle.rsp_report.proofs.Membership.{leaving_at}
use Rattle.rsp_report.proofs.contents.leaves.Goals as goal

pub returns-then-first-t-clause-leaves : goal.returns-then-first-t-clause-leaves
returns-then-first-t-clause-leaves c =
    leaving_at _ _ _ _ _ c.requires.later c.if-first-t.true c.in-Some.ensures.first c.is_needed.ensures.needed
