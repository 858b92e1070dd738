use Rattle.std.proofs.Common.{◌≡◌, drop}
use Rattle.rsp_report.specs.Named.{first_period}
use Rattle.rsp_report.proofs.chosen.first_period.Given as goal

abbrev pub invariant-loop-strategy : goal.invariant-loop-strategy
invariant-loop-strategy l = first_period (drop l.strategy-index l.strategies) ≡ first_period l.strategies
