use Rattle.std.proofs.Common.{◌≡◌, ◌+ℤ◌, drop}
use Rattle.rsp_multiset.specs.Weights.{weight, times}
use Rattle.rsp_terms.specs.declared.statement.Fact.{Fact}
use Rattle.rsp_terms.specs.Same.{fact_eq}
use Rattle.rsp_algebra.specs.Changing.{IsSet}
use Rattle.rsp_eval.proofs.facts.change_facts.Given as goal

abbrev pub invariant-loop-index : goal.invariant-loop-index
invariant-loop-index l =
    record {
      set : IsSet l.facts.keys;
      changed : (q : Fact)
          → times fact_eq l.facts.keys q +ℤ weight fact_eq (drop l.index l.changes) q
          ≡ times fact_eq l.initial.facts.keys q +ℤ weight fact_eq l.changes q;
    }
