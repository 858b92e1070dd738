use Rattle.rsp_report.proofs.Searching.{reaching_from}
use Rattle.rsp_report.proofs.contents.first_reaching.Goals as goal

pub returns-clause-first : goal.returns-clause-first
returns-clause-first c =
    reaching_from _ _ _ c.first_to_reach.result _ c.first_to_reach.ensures.reaches c.first_to_reach.ensures.first
    (rw c.opening.ensures at (rw c.as_slice.ensures at c.first_after.ensures))
