use Rattle.std.proofs.Common.{◌≡◌, ◌+ℤ◌, drop}
use Rattle.rsp_multiset.specs.Weights.{only, weight}
use Rattle.rsp_terms.specs.declared.statement.Fact.{Fact}
use Rattle.rsp_terms.specs.Same.{fact_eq}
use Rattle.rsp_scope.proofs.reader.reads_all.Given as goal

abbrev pub invariant-loop-index : goal.invariant-loop-index
invariant-loop-index g l =
    (q : Fact)
    → weight fact_eq l.changes q +ℤ only (g.R.Reader.is_read l.reader q) (weight fact_eq (drop l.index l.changes) q)
    ≡ only (g.R.Reader.is_read l.reader q) (weight fact_eq l.changes q) +ℤ weight fact_eq (drop l.index l.changes) q
