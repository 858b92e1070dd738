use Rattle.std.proofs.Common.{◌≡◌, ◌++◌, drop, map}
use Rattle.std.specs.List.{All}
use Rattle.rsp_engine.specs.Contents.{watches, watches_from}
use Rattle.rsp_engine.specs.Keeping.{IsUnmoved, watches_followed}
use Rattle.rsp_engine.specs.Readings.{window_of}
use Rattle.rsp_engine.proofs.registering.unmoved.Given as goal

abbrev pub invariant-loop-clause : goal.invariant-loop-clause
invariant-loop-clause l =
    record {
      unmoved : All IsUnmoved l.contents.items;
      watches : watches_followed l.contents.items ++ watches_from l.first l.spot (map window_of (drop l.clause-index l.clauses))
          ≡ watches l.first (map window_of l.clauses);
    }
