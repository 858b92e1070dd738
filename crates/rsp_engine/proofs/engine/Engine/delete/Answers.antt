use Rattle.std.proofs.Common.{refl}
use Rattle.rsp_engine.specs.Inside.{IsReady, live_of, state_of}
use Rattle.rsp_engine.proofs.FactSets.{store_less}
use Rattle.rsp_engine.proofs.Offering.{IsLoggedFor, delete_leads, fits_logged}
use Rattle.rsp_engine.proofs.Readiness.{idle_first, mapped, ready_stored}
use Rattle.rsp_engine.proofs.engine.Engine.delete.Goals as goal

pub invariant_of-self : goal.invariant_of-self
invariant_of-self g c = λ _.
    let sound : IsReady g.A.Answer.node g.A.Answer.width g.A.Answer.facts g.A.Answer.spent c.self.inside = (c.self.invariant (rw (← c.self.view_is) at c.requires.ready)).0 in
    let logged = rw c.as_slice.ensures.value at c.in-Ok.ensures.logged in (
      ready_stored _ _ _ _ _ sound _ refl refl refl refl refl refl refl (store_less c.self.inside.stored _ c.args.quads.now sound.state.store c.in-Ok.ensures.stored c.in-Ok.ensures.once)
          (λ items fits. fits_logged (state_of g.A.Answer.facts c.self.inside) _ _ items (mapped (IsLoggedFor c.self.inside.stored c.self.inside.log c.delete.new.stored c.delete.new.log) (live_of g.A.Answer.facts) c.self.inside.queries.items logged) fits),
      (c.self.invariant (rw (← c.self.view_is) at c.requires.ready)).1,
    )

pub returns-in-Ok : goal.returns-in-Ok
returns-in-Ok g c =
    let idle = idle_first c.args.self.now c.requires.ready c.requires.idle in
    let logged = rw c.as_slice.ensures.value at c.in-Ok.ensures.logged in
    rw (← c.self.view_is)
    (record {
      was_ready = rw (← c.self.view_is) at c.requires.ready;
      ready = rw (← c.self.view_is) at c.requires.ready;
      stands = λ world stands.
          delete_leads (state_of g.A.Answer.facts c.self.inside) c.args.quads.now c.delete.new.stored c.delete.new.log world (rw (← c.self.view_is) at idle) c.in-Ok.ensures.stored
          (mapped (IsLoggedFor c.self.inside.stored c.self.inside.log c.delete.new.stored c.delete.new.log) (live_of g.A.Answer.facts) c.self.inside.queries.items logged) stands;
    })
