use Rattle.rsp_engine.proofs.Standing.{idle_left}
use Rattle.rsp_engine.proofs.engine.Engine.is_idle.Goals as goal

pub returns-else-self-clause-left : goal.returns-else-self-clause-left
returns-else-self-clause-left g c world left stands = idle_left _ world left c.is_none.result c.is_none.ensures (rw (← c.self.view_is) at stands)
