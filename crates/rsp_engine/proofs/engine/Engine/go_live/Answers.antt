use Rattle.std.proofs.Common.{refl, unwrap_or}
use Rattle.rsp_engine.specs.Inside.{IsReady, state_of}
use Rattle.rsp_engine.proofs.DueNext.{sought_more}
use Rattle.rsp_engine.proofs.Readiness.{idle_first, ready_more}
use Rattle.rsp_engine.proofs.engine.Engine.go_live.Goals as goal

pub add-requires-clause-read : goal.add-requires-clause-read
add-requires-clause-read g c = (c.self.invariant (rw (← c.self.view_is) at c.requires.ready)).1.0

pub invariant_of-self : goal.invariant_of-self
invariant_of-self g c = λ _.
    let sound : IsReady g.A.Answer.node g.A.Answer.width g.A.Answer.facts g.A.Answer.spent c.self.inside = (c.self.invariant (rw (← c.self.view_is) at c.requires.ready)).0 in
    let idle = idle_first (state_of g.A.Answer.facts c.self.inside) (rw (← c.self.view_is) at c.requires.ready) (rw (← c.self.view_is) at c.requires.idle) in (
      ready_more _ _ _ _ _ sound idle _ c.args.query refl refl refl refl refl refl refl refl refl c.in-Ok.ensures.queries (rw (← c.self.view_is) at c.requires.begins) (rw (← c.self.view_is) at c.requires.prompt) c.requires.up_to (rw (← c.self.view_is) at c.requires.instants) c.requires.watches (rw (← c.self.view_is) at c.requires.free) c.requires.answers,
      (
        c.in-Ok.ensures.read,
        rw c.in-Ok.ensures.queries
            (sought_more (unwrap_or c.self.inside.next 0) c.self.inside.first c.self.inside.queries.items idle
            (c.self.invariant (rw (← c.self.view_is) at c.requires.ready)).1.1 c.args.query (rw (← c.self.view_is) at c.requires.sought)),
      ),
    )
