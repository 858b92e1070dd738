use Rattle.rsp_report.proofs.NextItems.{leaving_never}
use Rattle.rsp_report.proofs.jumps.next_leaving.Goals as goal

pub leaving_of-requires-clause-first : goal.leaving_of-requires-clause-first
leaving_of-requires-clause-first c = rw c.saturating_sub.ensures at c.in-Some.ensures.first

pub returns-in-None : goal.returns-in-None
returns-in-None c = leaving_never _ _ _ _ (rw c.saturating_sub.ensures at c.in-None.ensures.first)
