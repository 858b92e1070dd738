use Rattle.std.proofs.Common.{rules, ◌<◌, length, ap, sym, subst, ◌∙◌, arith}
use Rattle.std.specs.List.Sorted.{IsNonDecreasingBy}
use Rattle.std.proofs.lemmas.List.Sorted.{IsNonDecreasingBy-drop}
use Rattle.rsp_scope.specs.Runs.{reaching, triples_in}
use Rattle.rsp_scope.specs.declared.ends.Ending.{Ending}
use Rattle.rsp_scope.proofs.Risings.{reaching-past, reaching-stops, triples-past}
use Rattle.rsp_scope.proofs.ends.Run.drop_before.Goals as goal

pub loop-front-preserved : goal.loop-front-preserved
loop-front-preserved c =
    let es = c.loop-front.self-inside.rising.items in
    let below : 0 < length c.loop-front.self-inside.rising.items = search rules in
    let gone : c.in-Some.front.now.end < c.args.next = search rules in
    let rest = triples-past es 0 c.in-Some.front.now below c.in-Some.ensures.lookup in
    let left = ap (λ l. triples_in l) c.pop_front.ensures.rest in (
      record {
        order = subst (λ l. IsNonDecreasingBy (λ (e : Ending). e.end) l) (sym c.pop_front.ensures.rest)
            (IsNonDecreasingBy-drop (λ (e : Ending). e.end) 1 es c.loop-front.invariant.0.order);
        triples = omega (arith, rest, left, c.loop-front.invariant.0.triples);
      },
      ap (λ l. reaching c.args.next l) c.pop_front.ensures.rest
          ∙ (sym (reaching-past c.args.next es 0 c.in-Some.front.now below c.in-Some.ensures.lookup gone) ∙ c.loop-front.invariant.1),
    )

pub returns-then-next-front : goal.returns-then-next-front
returns-then-next-front c =
    let below : 0 < length c.loop-front.self-inside.rising.items = search rules in
    rw (← c.self.view_is)
    (sym (reaching-stops c.args.next c.loop-front.self-inside.rising.items 0 c.in-Some.front.now c.loop-front.invariant.0.order below c.in-Some.ensures.lookup c.if-next-front.true)
    ∙ c.loop-front.invariant.1)
