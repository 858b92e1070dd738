use Rattle.rsp_terms.specs.Same.{fact_same}
use Rattle.rsp_algebra.proofs.Sets.{in_turn}
use Rattle.rsp_eval.proofs.FactSets.{next_taken}
use Rattle.rsp_eval.proofs.facts.change_facts.Goals as goal

pub change_fact-requires-clause-allowed : goal.change_fact-requires-clause-allowed
change_fact-requires-clause-allowed c =
    in_turn fact_same _ _ _ _ _ _ _ c.distinct-index-end.ensures.changes c.counted_at-by.ensures.rest c.requires c.loop-index.invariant.changed

pub loop-index-preserved : goal.loop-index-preserved
loop-index-preserved c =
    record {
      set = c.in_ok-change_fact.ensures.set;
      changed = next_taken _ _ _ _ _ _ _ _ c.counted_at-by.ensures.rest c.in_ok-change_fact.ensures.changed c.loop-index.invariant.changed;
    }
