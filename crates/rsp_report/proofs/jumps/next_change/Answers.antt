use Rattle.rsp_report.proofs.NextItems.{change_least}
use Rattle.rsp_report.proofs.jumps.next_change.Goals as goal

pub returns : goal.returns
returns c =
    rw c.sooner.ensures (change_least _ _ _ _ _ _ c.next_entering-entering.ensures.shape.slide_low
    c.next_entering-entering.ensures.least c.next_leaving-leaving.ensures)
