use Rattle.std.proofs.Common.{drop}
use Rattle.rsp_algebra.specs.Fitting.{AreBelow}
use Rattle.rsp_query_tests.proofs.fitting.are_below.Given as goal

abbrev pub invariant-loop-variable : goal.invariant-loop-variable
invariant-loop-variable l = AreBelow l.width (drop l.variable-index l.variables) → AreBelow l.width l.variables
