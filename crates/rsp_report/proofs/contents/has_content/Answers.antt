use Rattle.rsp_report.proofs.Membership.{has_content_at, has_none}
use Rattle.rsp_report.proofs.contents.has_content.Goals as goal

pub returns-in-Some : goal.returns-in-Some
returns-in-Some c = has_content_at _ _ _ _ c.in-Some.ensures.shape.slide_low c.in-Some.ensures.first

pub returns-in-None : goal.returns-in-None
returns-in-None c = has_none _ _ _ c.in-None.ensures.shape.slide_low c.in-None.ensures.first
