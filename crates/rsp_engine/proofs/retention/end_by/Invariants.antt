use Rattle.std.proofs.Common.{List, take}
use Rattle.rsp_terms.specs.declared.statement.Triple.{Triple}
use Rattle.rsp_scope.specs.Ends.{EndsAt}
use Rattle.rsp_engine.specs.Keeping.{watches_followed}
use Rattle.rsp_engine.proofs.retention.end_by.Given as goal

abbrev pub invariant-loop-content : goal.invariant-loop-content
invariant-loop-content l =
    (graph : List Triple)
    → EndsAt (watches_followed (take l.content-index l.contents))
    (record { number = l.number; item = record { stream = l.stream; time = l.time; graph = graph } })
    l.end
