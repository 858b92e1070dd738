use Rattle.std.proofs.Common.{refl, []}
use Rattle.rsp_modes.proofs.Spending.{all_spent}
use Rattle.rsp_modes.proofs.Streamed.{run_says}
use Rattle.rsp_modes.proofs.run.tell_feed.Goals as goal

pub returns-clause-says : goal.returns-clause-says
returns-clause-says g c =
    rw
    c.stop_of.ensures
    (run_says _ _ _ _ _ _ _ _ _ _ c.drive-driven.result (c.drive-driven.ensures.drove _ [] refl) c.drive-driven.ensures.none c.requires.new)

pub returns-clause-cost : goal.returns-clause-cost
returns-clause-cost g c = all_spent _ _ _ _ [] _ _ _ c.drive-driven.result _ (c.drive-driven.ensures.cost _ [] refl) c.requires.new
