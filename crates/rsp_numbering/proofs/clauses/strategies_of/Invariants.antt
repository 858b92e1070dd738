use Rattle.std.proofs.Common.{◌≡◌, ◌++◌, map, drop}
use Rattle.rsp_written.specs.GroupMeanings as written
use Rattle.rsp_numbering.specs.Clauses.{strategy_of}
use Rattle.rsp_numbering.proofs.clauses.strategies_of.Given as goal

abbrev pub invariant-loop-strategy : goal.invariant-loop-strategy
invariant-loop-strategy l =
    l.made ++ map strategy_of (map written.strategy_of (drop l.strategy-index l.strategies))
    ≡ map strategy_of (map written.strategy_of l.strategies)
