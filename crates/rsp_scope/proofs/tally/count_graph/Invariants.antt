use Rattle.std.proofs.Common.{◌≡◌, ◌+ℤ◌, drop}
use Rattle.rsp_multiset.specs.Weights.{weight}
use Rattle.rsp_terms.specs.declared.statement.Fact.{Fact}
use Rattle.rsp_terms.specs.Same.{fact_eq}
use Rattle.rsp_scope.specs.Contents.{facts_in}
use Rattle.rsp_scope.specs.Moves.{Tells, counted_by}
use Rattle.rsp_scope.proofs.tally.count_graph.Given as goal

abbrev pub invariant-loop-triple : goal.invariant-loop-triple
invariant-loop-triple l =
    ((q : Fact)
    → weight fact_eq l.counts q +ℤ counted_by l.by (facts_in l.spot (drop l.triple-index l.triples)) q
    ≡ weight fact_eq l.initial.counts q +ℤ counted_by l.by (facts_in l.spot l.triples) q)
    × Tells fact_eq l.initial.counts l.counts l.initial.change l.change
