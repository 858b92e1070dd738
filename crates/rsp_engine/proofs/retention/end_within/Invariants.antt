use Rattle.std.proofs.Common.{List, take}
use Rattle.rsp_terms.specs.declared.statement.Triple.{Triple}
use Rattle.rsp_scope.specs.Ends.{EndsAt}
use Rattle.rsp_engine.specs.Keeping.{watches_by}
use Rattle.rsp_engine.proofs.retention.end_within.Given as goal

abbrev pub invariant-loop-place : goal.invariant-loop-place
invariant-loop-place g l =
    (graph : List Triple)
    → EndsAt (watches_by (take l.place l.queries))
    (record { number = l.number; item = record { stream = l.stream; time = l.time; graph = graph } })
    l.end
