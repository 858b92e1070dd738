use Rattle.std.proofs.Common.{◌≡◌, ◌+◌, drop}
use Rattle.rsp_scope.specs.Runs.{from, over, triples}
use Rattle.rsp_scope.proofs.runs.triples_from.Given as goal

abbrev pub invariant-loop-run : goal.invariant-loop-run
invariant-loop-run l = l.sum + over (from l.next triples) (drop l.run-index l.runs) ≡ over (from l.next triples) l.runs
