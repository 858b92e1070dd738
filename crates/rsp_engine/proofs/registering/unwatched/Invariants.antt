use Rattle.std.proofs.Common.{◌≡◌, ◌++◌, [], drop, map}
use Rattle.rsp_engine.specs.Due.{watched_window}
use Rattle.rsp_engine.specs.Readings.{window_of}
use Rattle.rsp_engine.proofs.registering.unwatched.Given as goal

abbrev pub invariant-loop-clause : goal.invariant-loop-clause
invariant-loop-clause l =
    l.watched.items ++ map (watched_window []) (map window_of (drop l.clause-index l.clauses)) ≡ map (watched_window []) (map window_of l.clauses)
