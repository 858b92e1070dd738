use Rattle.rsp_engine.specs.Inside.{asked}
use Rattle.rsp_engine.specs.Watching.{is_due_over_by}
use Rattle.rsp_engine.proofs.FirstReader.{FailSoFar}
use Rattle.rsp_engine.proofs.schedule.first_over.Given as goal

abbrev pub invariant-loop-index : goal.invariant-loop-index
invariant-loop-index g l =
    FailSoFar (λ live. is_due_over_by (asked live) l.stream l.next) l.queries l.places l.number l.index
