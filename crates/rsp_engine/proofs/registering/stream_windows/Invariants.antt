use Rattle.std.proofs.Common.{◌≡◌, ◌++◌, drop, map}
use Rattle.rsp_engine.specs.Readings.{window_of}
use Rattle.rsp_engine.proofs.registering.stream_windows.Given as goal

abbrev pub invariant-loop-clause : goal.invariant-loop-clause
invariant-loop-clause l = l.windows ++ map window_of (drop l.clause-index l.clauses) ≡ map window_of l.clauses
