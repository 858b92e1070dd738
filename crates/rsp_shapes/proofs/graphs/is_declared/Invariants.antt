use Rattle.std.proofs.Common.{◌≡◌, drop}
use Rattle.rsp_shapes.specs.Shapes.{is_among, declared}
use Rattle.rsp_shapes.proofs.graphs.is_declared.Given as goal

abbrev pub invariant-loop-clause : goal.invariant-loop-clause
invariant-loop-clause l = is_among (declared (drop l.clause-index l.windows)) l.name ≡ is_among (declared l.windows) l.name
