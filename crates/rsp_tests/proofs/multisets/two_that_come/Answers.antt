use Rattle.std.proofs.Common.{◌∙◌, refl}
use Rattle.rsp_tests.proofs.multisets.two_that_come.Goals as goal

pub returns : goal.returns
returns c = c.count.ensures ∙ (c.in_ok-bag.ensures _ ∙ rw (c.requires.changes, c.requires.row) refl)
