use Rattle.rsp_number.proofs.Writing.{past-next}
use Rattle.rsp_number.proofs.written.size_after.Goals as goal

pub returns-then-next : goal.returns-then-next
returns-then-next c = past-next _ _ _ _ c.loop-digit-test.true c.if-next.true c.loop-digit.invariant.rest
