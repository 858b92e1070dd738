use Rattle.rsp_multiset.proofs.Counting.{first_less}
use Rattle.rsp_algebra.specs.Solutions.{same_row}
use Rattle.rsp_eval.proofs.changing.take_rows.Goals as goal

pub loop-row-preserved : goal.loop-row-preserved
loop-row-preserved c =
    λ q. first_less same_row _ _ _ _ _ _ _ q c.in-Some.ensures.steps.0 (c.in_ok-alter.ensures.ok q) (c.loop-row.invariant q)
