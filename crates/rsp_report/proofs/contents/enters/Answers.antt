use Rattle.rsp_report.proofs.Membership.{none_listed, other_listed}
use Rattle.rsp_report.proofs.contents.enters.Goals as goal

pub returns-else-first-t : goal.returns-else-first-t
returns-else-first-t c = other_listed _ _ _ _ c.requires.later (rw c.as_slice.ensures at c.in-Some.ensures) c.if-first-t.false

pub returns-in-None : goal.returns-in-None
returns-in-None c = none_listed _ _ _ c.requires.later (rw c.as_slice.ensures at c.in-None.ensures)
