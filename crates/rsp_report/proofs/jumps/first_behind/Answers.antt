use Rattle.rsp_report.proofs.NextItems.{behind_from}
use Rattle.rsp_report.proofs.jumps.first_behind.Goals as goal

pub returns-clause-first : goal.returns-clause-first
returns-clause-first c =
    behind_from _ _ _ _ c.first_to_reach.result _ c.first_to_reach.ensures.reaches c.first_to_reach.ensures.first
    (rw c.opening-opening.ensures at (rw c.max.ensures at (rw c.as_slice.ensures at c.first_after.ensures)))
