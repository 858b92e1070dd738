use Rattle.rsp_report.proofs.NextItems.{entering_next, entering_beyond, entering_never}
use Rattle.rsp_report.proofs.jumps.next_entering.Goals as goal

pub returns-then-time-to-clause-least : goal.returns-then-time-to-clause-least
returns-then-time-to-clause-least c = entering_next _ _ _ _ _ (rw c.saturating_sub.ensures at c.in-Some.ensures.first) c.if-time-to.true

pub returns-else-time-to-clause-least : goal.returns-else-time-to-clause-least
returns-else-time-to-clause-least c = entering_beyond _ _ _ _ _ (rw c.saturating_sub.ensures at c.in-Some.ensures.first) c.if-time-to.false

pub returns-in-None-clause-least : goal.returns-in-None-clause-least
returns-in-None-clause-least c = entering_never _ _ _ _ (rw c.saturating_sub.ensures at c.in-None.ensures.first)
