use Rattle.std.proofs.Common.{◌∙◌}
use Rattle.rsp_report.proofs.Searching.{after_missed, copied_at}
use Rattle.rsp_report.proofs.contents.first_after.Goals as goal

pub returns-in-Err : goal.returns-in-Err
returns-in-Err c =
    after_missed _ _ _ _ c.requires.sorted c.in-Err.ensures.position
    (c.copied.ensures ∙ copied_at _ _ _ c.get.ensures.lookup.0 c.get.ensures.lookup.1)
