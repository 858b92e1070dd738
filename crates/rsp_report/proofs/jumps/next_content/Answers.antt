use Rattle.rsp_report.proofs.NextItems.{content_next, no_content_next, no_content}
use Rattle.rsp_report.proofs.jumps.next_content.Goals as goal

pub returns-then-at-to : goal.returns-then-at-to
returns-then-at-to c = rw c.max-at.ensures (content_next _ _ _ _ _ c.in-Some.ensures.shape.slide_low c.in-Some.ensures.first (rw c.max-at.ensures at c.if-at-to.true))

pub returns-else-at-to : goal.returns-else-at-to
returns-else-at-to c = no_content_next _ _ _ _ _ c.in-Some.ensures.shape.slide_low c.in-Some.ensures.first (rw c.max-at.ensures at c.if-at-to.false)

pub returns-in-None : goal.returns-in-None
returns-in-None c = no_content _ _ _ _ c.in-None.ensures.shape.slide_low c.in-None.ensures.first
