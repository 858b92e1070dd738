use Rattle.std.proofs.Common.{◌∙◌}
use Rattle.rsp_events.proofs.Endings.{long_still}
use Rattle.rsp_events.proofs.begun.lengthened.Goals as goal

pub returns-in-Long : goal.returns-in-Long
returns-in-Long c bytes is = long_still bytes _ _ _ (is ∙ c.in-Long.is) c.ending_behind.ensures
