use Rattle.std.proofs.Common.{◌≡◌, ◌+◌, ◌≤◌, drop}
use Rattle.rsp_report.specs.Named.{count_of}
use Rattle.rsp_report.proofs.chosen.count_of.Given as goal

abbrev pub invariant-loop-strategy : goal.invariant-loop-strategy
invariant-loop-strategy l =
    (l.count ≤ l.strategy-index) × (l.count + count_of l.kind (drop l.strategy-index l.strategies) ≡ count_of l.kind l.strategies)
