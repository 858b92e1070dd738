use Rattle.std.proofs.Common.{◌∙◌, refl}
use Rattle.rsp_tests.proofs.multisets.three_rows.Goals as goal

pub returns : goal.returns
returns c =
    c.count.ensures
    ∙ (c.in_ok-alter.ensures.ok _ ∙ rw (c.requires.bag, c.requires.one, c.requires.other, c.in_ok-new.ensures.1) refl)
