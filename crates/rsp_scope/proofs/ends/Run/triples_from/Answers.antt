use Rattle.std.proofs.Common.{rules, ◌<◌, length, ap, sym, ◌∙◌}
use Rattle.rsp_scope.specs.Runs.{triples_in}
use Rattle.rsp_scope.proofs.Risings.{reaching-stops}
use Rattle.rsp_scope.proofs.ends.Run.triples_from.Goals as goal

pub returns-then-next-ending : goal.returns-then-next-ending
returns-then-next-ending c =
    let below : c.loop-at.at < length c.self.inside.rising.items = search rules in
    rw (← c.self.view_is)
    (c.loop-at.invariant.0
    ∙ ap (λ l. triples_in l)
    (sym (reaching-stops c.args.next c.self.inside.rising.items c.loop-at.at c.index-ending.result.now c.self.invariant.order below c.index-ending.ensures c.if-next-ending.true)
    ∙ c.loop-at.invariant.1))
