use Rattle.rsp_terms.specs.Same.{fact_eq}
use Rattle.rsp_scope.specs.Contents.{fact_in}
use Rattle.rsp_scope.proofs.Tallies.{counted-next, told-on}
use Rattle.rsp_scope.proofs.tally.count_graph.Goals as goal

pub loop-triple-preserved : goal.loop-triple-preserved
loop-triple-preserved c = (
  λ q.
      counted-next fact_eq (fact_in c.args.spot) c.args.triples.now c.loop-triple.triple-index c.triple-item.result c.in_ok-fact.fact c.args.by _ _ _ q
      c.loop-triple-test.true
      c.triple-item.is
      c.in_ok-fact.ensures
      (c.in_ok-count_by.ensures.counts q)
      (c.loop-triple.invariant.0 q),
  told-on fact_eq _ _ _ _ _ _ c.loop-triple.invariant.1 c.in_ok-count_by.ensures.tells,
)
