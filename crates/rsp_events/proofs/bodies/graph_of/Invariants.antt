use Rattle.rsp_events.specs.Contents.{is_bad_triple, triple_on}
use Rattle.rsp_events.proofs.Going.{Went}
use Rattle.rsp_events.proofs.bodies.graph_of.Given as goal

abbrev pub invariant-loop-place : goal.invariant-loop-place
invariant-loop-place l = Went (triple_on l.document) (is_bad_triple l.document) l.lines l.place l.graph
