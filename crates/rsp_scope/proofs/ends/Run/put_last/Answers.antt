use Rattle.std.proofs.Common.{sym, subst, arith}
use Rattle.std.specs.List.Sorted.{IsNonDecreasingBy}
use Rattle.std.proofs.lemmas.Grind.{common_steps}
use Rattle.std.proofs.lemmas.List.Sorted.{IsNonDecreasingBy-push}
use Rattle.std.proofs.lemmas.List.Sums.{sum_by_push}
use Rattle.rsp_scope.specs.declared.ends.Ending.{Ending}
use Rattle.rsp_scope.proofs.ends.Run.put_last.Goals as goal

pub invariant_of-self-2 : goal.invariant_of-self-2
invariant_of-self-2 c =
    record {
      order = subst (λ l. IsNonDecreasingBy (λ (e : Ending). e.end) l) (sym c.in_ok-push_back.ensures.items)
          (IsNonDecreasingBy-push (λ (e : Ending). e.end) c.self.inside.rising.items c.args.ending c.self.invariant.order (rw (← c.self.view_is) at c.requires));
      triples = grind (arith, common_steps, sum_by_push (λ (e : Ending). e.triples) c.self.inside.rising.items c.args.ending);
    }
