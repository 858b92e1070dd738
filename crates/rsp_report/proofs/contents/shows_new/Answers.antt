use Rattle.rsp_report.proofs.Membership.{shown_if}
use Rattle.rsp_report.proofs.contents.shows_new.Goals as goal

pub returns-then-watched : goal.returns-then-watched
returns-then-watched c = shown_if _ _ _ _ c.is_needed.ensures.shape.slide_low c.if-watched.true c.is_needed.ensures.needed
