use Rattle.rsp_events.specs.Contents.{is_bad_quad, quad_on}
use Rattle.rsp_events.proofs.Going.{Went}
use Rattle.rsp_events.proofs.bodies.quads_of.Given as goal

abbrev pub invariant-loop-place : goal.invariant-loop-place
invariant-loop-place l = Went (quad_on l.document) (is_bad_quad l.document) l.lines l.place l.quads
