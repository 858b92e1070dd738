use Rattle.std.proofs.Common.{◌≤◌, Err, ap, length, map, refl, subst, sym}
use Rattle.std.specs.List.{All}
use Rattle.rsp_spec.specs.Limits.{most_quads}
use Rattle.rsp_events.specs.declared.event.Event.TheVariants.{Insert}
use Rattle.rsp_scope.specs.Faults.{IsStoredFault}
use Rattle.rsp_scope.specs.Quads.{stored_with}
use Rattle.rsp_scope.specs.declared.stored.StoredFault.TheVariants.{StoreFull}
use Rattle.rsp_engine.specs.Offers.{RefusesAs}
use Rattle.rsp_engine.specs.declared.refused.Refused.TheVariants as answer
use Rattle.rsp_engine.specs.Inside.{IsReady, live_of, state_of}
use Rattle.rsp_engine.specs.Stands.{IsStore}
use Rattle.rsp_engine.proofs.FactSets.{store_more}
use Rattle.rsp_engine.proofs.Offering.{IsLoggedFor, Leads, fits_logged, full_store_refuses, insert_fits, insert_leads}
use Rattle.rsp_engine.proofs.Readiness.{idle_first, mapped, ready_stored}
use Rattle.rsp_engine.proofs.engine.Engine.insert.Goals as goal

pub invariant_of-self : goal.invariant_of-self
invariant_of-self g c = λ _.
    let sound : IsReady g.A.Answer.node g.A.Answer.width g.A.Answer.facts g.A.Answer.spent c.self.inside = (c.self.invariant (rw (← c.self.view_is) at c.requires.ready)).0 in
    let logged = rw c.as_slice.ensures.value at c.in-Ok.ensures.logged in (
      ready_stored _ _ _ _ _ sound _ refl refl refl refl refl refl refl (subst IsStore (sym c.in-Ok.ensures.stored) (store_more c.self.inside.stored c.args.quads.now sound.state.store))
          (λ items fits. fits_logged (state_of g.A.Answer.facts c.self.inside) _ _ items (mapped (IsLoggedFor c.self.inside.stored c.self.inside.log c.insert.new.stored c.insert.new.log) (live_of g.A.Answer.facts) c.self.inside.queries.items logged) fits),
      (c.self.invariant (rw (← c.self.view_is) at c.requires.ready)).1,
    )

pub returns-in-Ok : goal.returns-in-Ok
returns-in-Ok g c =
    let idle = idle_first c.args.self.now c.requires.ready c.requires.idle in
    let logged = rw c.as_slice.ensures.value at c.in-Ok.ensures.logged in
    rw (← c.self.view_is)
    (record {
      was_ready = rw (← c.self.view_is) at c.requires.ready;
      ready = rw (← c.self.view_is) at c.requires.ready;
      stands = λ world stands.
          subst (λ fs. Leads world (Insert c.args.quads.now) (record (state_of g.A.Answer.facts c.self.inside) { stored = fs; log = c.insert.new.log })) (sym c.in-Ok.ensures.stored)
          (insert_leads (state_of g.A.Answer.facts c.self.inside) c.args.quads.now c.insert.new.log world (rw (← c.self.view_is) at idle) (subst (λ fs. length fs ≤ most_quads) c.in-Ok.ensures.stored c.in-Ok.ensures.within)
          (subst (λ fs. All (IsLoggedFor c.self.inside.stored c.self.inside.log fs c.insert.new.log) (map (live_of g.A.Answer.facts) c.self.inside.queries.items)) c.in-Ok.ensures.stored
          (mapped (IsLoggedFor c.self.inside.stored c.self.inside.log c.insert.new.stored c.insert.new.log) (live_of g.A.Answer.facts) c.self.inside.queries.items logged)) stands);
    })

pub returns-in-Err-StoreFull : goal.returns-in-Err-StoreFull
returns-in-Err-StoreFull g c =
    let old = state_of g.A.Answer.facts c.self.inside in
    let many = c.in-Err-StoreFull.quads in
    let fault : IsStoredFault (length (stored_with c.self.inside.stored c.args.quads.now)) (StoreFull many) = rw c.in-Err-StoreFull.field-0-is at c.in-Err-StoreFull.ensures.fault in
    let refused = full_store_refuses old c.args.quads.now many (rw (← c.self.view_is) at c.requires.ready) fault in
    let same = c.in-Err-StoreFull.ensures.full many (ap Err c.in-Err-StoreFull.field-0-is) in
    rw (← c.self.view_is)
    (subst (λ fs. RefusesAs old (Insert c.args.quads.now) (answer.StoreFull many) (record old { stored = fs; log = c.insert.new.log })) (sym same.0)
    (subst (λ log. RefusesAs old (Insert c.args.quads.now) (answer.StoreFull many) (record old { log = log })) (sym same.1) refused))

pub returns-in-Err-OutOfMemory : goal.returns-in-Err-OutOfMemory
returns-in-Err-OutOfMemory g c =
    let old = state_of g.A.Answer.facts c.self.inside in
    let fits : length (stored_with c.self.inside.stored c.args.quads.now) ≤ most_quads = rw c.in-Err-OutOfMemory.field-0-is at c.in-Err-OutOfMemory.ensures.fault in
    rw (← c.self.view_is)
    (record {
      was_ready = rw (← c.self.view_is) at c.requires.ready;
      broken = refl;
      may_take = λ world stands. insert_fits old c.args.quads.now world fits stands;
    })
