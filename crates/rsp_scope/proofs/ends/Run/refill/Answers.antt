use Rattle.std.proofs.Common.{rules, ◌≡◌, ◌+◌, ◌<◌, ◌≤◌, drop, length, sum_by, sym, ap, subst, ◌∙◌, arith, Fits-le}
use Rattle.std.specs.List.Sorted.{IsNonDecreasingBy}
use Rattle.std.proofs.lemmas.List.Sorted.{IsNonDecreasingBy-from_sort_by_key, sum_by-IsPermutation}
use Rattle.rsp_scope.specs.Runs.{over_items, triples, triples_in}
use Rattle.rsp_scope.specs.declared.ends.Ending.{Ending}
use Rattle.rsp_scope.proofs.Endings.{refill-fits}
use Rattle.rsp_scope.proofs.ends.Run.refill.Goals as goal

pub overflow_add-self : goal.overflow_add-self
overflow_add-self c =
    let so_far = c.loop-at.invariant.3 triples in
    let below : c.loop-at.at < length c.args.items.now.items = search rules in
    let fits = refill-fits c.args.items.now.items c.args.start c.loop-at.at c.index.result.now (triples_in c.loop-at.self-inside.rising.items) below c.index.ensures so_far in
    let ending : c.ending_of-ending.result.triples ≡ length c.index.result.now.graph = ap (λ (e : Ending). e.triples) c.ending_of-ending.ensures in
    let bound : c.loop-at.self-inside.triples + c.ending_of-ending.result.triples ≤ c.args.most = omega (arith, fits, ending, c.loop-at.invariant.0, c.requires.few) in
    Fits-le bound (search rules)

pub invariant_of-self : goal.invariant_of-self
invariant_of-self c =
    let back = c.make_contiguous.ensures.writes_back c.sort_unstable_by_key.new.self (c.sort_unstable_by_key.ensures.len ∙ c.make_contiguous.ensures.len) in
    record {
      order = subst (λ l. IsNonDecreasingBy (λ (e : Ending). e.end) l) (sym back)
          (IsNonDecreasingBy-from_sort_by_key (λ (e : Ending). e.end) _ c.sort_unstable_by_key.ensures.sorted (λ a r q k. search rules));
      triples = c.loop-at.invariant.0
          ∙ (ap (λ l. triples_in l) (sym c.make_contiguous.ensures.value)
          ∙ (sym (sum_by-IsPermutation (λ (e : Ending). e.triples) _ _ c.sort_unstable_by_key.ensures.permutation)
          ∙ ap (λ l. triples_in l) (sym back)));
    }

pub returns-clause-same : goal.returns-clause-same
returns-clause-same c f =
    let back = c.make_contiguous.ensures.writes_back c.sort_unstable_by_key.new.self (c.sort_unstable_by_key.ensures.len ∙ c.make_contiguous.ensures.len) in
    let sum = ap (λ l. sum_by f l) back
    ∙ (sum_by-IsPermutation f _ _ c.sort_unstable_by_key.ensures.permutation ∙ ap (λ l. sum_by f l) c.make_contiguous.ensures.value) in
    let end : c.loop-at.at ≡ c.args.start + c.min.result = search rules in
    (λ i. sum i + over_items f (drop (sym end i) c.args.items.now.items)) ∙ c.loop-at.invariant.3 f
