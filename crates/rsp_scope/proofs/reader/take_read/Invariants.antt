use Rattle.std.proofs.Common.{◌≡◌, ◌+ℤ◌, length}
use Rattle.rsp_multiset.specs.Weights.{only, weight}
use Rattle.rsp_terms.specs.declared.statement.Fact.{Fact}
use Rattle.rsp_terms.specs.Same.{fact_eq}
use Rattle.rsp_scope.proofs.reader.take_read.Given as goal

abbrev pub decreases-loop-fact : goal.decreases-loop-fact
decreases-loop-fact g l = length l.changes

abbrev pub invariant-loop-fact : goal.invariant-loop-fact
invariant-loop-fact g l =
    (q : Fact)
    → weight fact_eq l.read q +ℤ only (g.R.Reader.is_read l.reader q) (weight fact_eq l.changes q)
    ≡ weight fact_eq l.initial.read q +ℤ only (g.R.Reader.is_read l.reader q) (weight fact_eq l.initial.changes q)
