use Rattle.std.proofs.Common.{◌≡◌, map}
use Rattle.rsp_engine.specs.Inside.{undated}
use Rattle.rsp_engine.proofs.DueNext.{AreSoughtSoFar}
use Rattle.rsp_engine.proofs.schedule.look_at_all.Given as goal

abbrev pub invariant-loop-query : goal.invariant-loop-query
invariant-loop-query g l =
    record {
      same : map undated l.queries ≡ map undated l.initial.queries;
      sought : AreSoughtSoFar l.from l.query l.queries;
    }
