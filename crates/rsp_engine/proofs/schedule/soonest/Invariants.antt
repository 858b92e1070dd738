use Rattle.rsp_engine.specs.Sought.{IsSoonest}
use Rattle.rsp_engine.proofs.schedule.soonest.Given as goal

abbrev pub invariant-loop-query : goal.invariant-loop-query
invariant-loop-query g l = IsSoonest (λ live. live.due) l.queries l.query l.next l.best
