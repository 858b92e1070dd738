use Rattle.std.proofs.Common.{◌≡◌, ◌+ℤ◌, drop}
use Rattle.rsp_multiset.specs.Weights.{only, weight}
use Rattle.rsp_terms.specs.declared.statement.Fact.{Fact}
use Rattle.rsp_terms.specs.Same.{fact_eq}
use Rattle.rsp_scope.proofs.pieces.add_all.Given as goal

abbrev pub invariant-loop-index : goal.invariant-loop-index
invariant-loop-index g l =
    (q : Fact)
    → weight fact_eq l.sum q +ℤ only (g.R.Reader.is_read l.reader q) (weight fact_eq (drop l.index l.changes) q)
    ≡ weight fact_eq l.initial.sum q +ℤ only (g.R.Reader.is_read l.reader q) (weight fact_eq l.changes q)
