use Rattle.rsp_report.proofs.NextItems.{leaving_next, leaving_beyond}
use Rattle.rsp_report.proofs.jumps.leaving_of.Goals as goal

pub returns-then-last-to : goal.returns-then-last-to
returns-then-last-to c = leaving_next _ _ _ _ _ _ c.requires.first c.in-Some.ensures.last c.if-last-to.true

pub returns-else-last-to : goal.returns-else-last-to
returns-else-last-to c = leaving_beyond _ _ _ _ _ _ c.requires.first c.in-Some.ensures.last c.if-last-to.false
