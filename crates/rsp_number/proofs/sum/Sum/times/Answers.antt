use Rattle.rsp_number.proofs.Summing.{sum-times-is}
use Rattle.rsp_number.proofs.sum.Sum.times.Goals as goal

pub returns : goal.returns
returns c = rw (← c.self.view_is) (sum-times-is _ _ _ _ c.times_plus.ensures)
