use Rattle.std.proofs.Common.{◌≡◌, ◌+ℤ◌, drop}
use Rattle.rsp_multiset.specs.Weights.{only, times, weight}
use Rattle.rsp_terms.specs.declared.statement.Fact.{Fact}
use Rattle.rsp_terms.specs.Same.{fact_eq}
use Rattle.rsp_scope.proofs.stored.read_of.Given as goal

abbrev pub invariant-loop-fact : goal.invariant-loop-fact
invariant-loop-fact g l =
    (q : Fact)
    → weight fact_eq l.changes q +ℤ only (g.R.Reader.is_read l.reader q) (times fact_eq (drop l.fact-index l.facts) q)
    ≡ only (g.R.Reader.is_read l.reader q) (times fact_eq l.facts q)
