use Rattle.std.proofs.Common.{ℤ, drop}
use Rattle.std.specs.List.{AllByRecursion}
use Rattle.rsp_terms.specs.declared.statement.Fact.{Fact}
use Rattle.rsp_query_tests.specs.Followed.{Turns, MayTurn}
use Rattle.rsp_query_tests.proofs.trial.check.Given as goal

abbrev pub invariant-loop-index : goal.invariant-loop-index
invariant-loop-index l =
    AllByRecursion (λ (e : Fact × ℤ). Turns l.facts l.changes e.0) (drop l.index l.changes) → MayTurn l.facts l.changes
