use Rattle.rsp_multiset.proofs.Counting.{one_more}
use Rattle.rsp_algebra.specs.Solutions.{same_row}
use Rattle.rsp_eval.proofs.changing.add_rows.Goals as goal

pub loop-row-preserved : goal.loop-row-preserved
loop-row-preserved c =
    λ q. one_more same_row _ _ _ _ _ _ _ q c.loop-row-test.true c.row-item.is c.in_ok-share.ensures (c.in_ok-alter.ensures.ok q) (c.loop-row.invariant q)
