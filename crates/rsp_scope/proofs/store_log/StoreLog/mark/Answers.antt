use Rattle.rsp_scope.proofs.LogLaws.{none-since}
use Rattle.rsp_scope.proofs.store_log.StoreLog.mark.Goals as goal

pub returns-clause-none : goal.returns-clause-none
returns-clause-none c q = rw (← c.self.view_is) (none-since c.self.inside.end c.self.inside.pieces.items c.self.invariant q)
