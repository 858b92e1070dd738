use Rattle.std.proofs.Common.{◌≡◌, ◌+◌, drop}
use Rattle.rsp_scope.specs.Runs.{one, over}
use Rattle.rsp_scope.proofs.runs.count.Given as goal

abbrev pub invariant-loop-run : goal.invariant-loop-run
invariant-loop-run l = l.count + over one (drop l.run-index l.runs) ≡ over one l.runs
