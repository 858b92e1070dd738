use Rattle.std.proofs.Common.{[], refl, unwrap_or}
use Rattle.rsp_engine.specs.Inside.{IsReady, state_of}
use Rattle.rsp_engine.specs.Stands.{Stands}
use Rattle.rsp_engine.proofs.Cancelling.{fits_without, lives, timed_below}
use Rattle.rsp_engine.proofs.DueNext.{sought_less}
use Rattle.rsp_engine.proofs.Offering.{cancel_leads, no_query_refuses}
use Rattle.rsp_engine.proofs.Readiness.{idle_first, ready_without}
use Rattle.rsp_engine.proofs.engine.Engine.cancel.Goals as goal

pub lower-requires-clause-room : goal.lower-requires-clause-room
lower-requires-clause-room g c =
    let sound : IsReady g.A.Answer.node g.A.Answer.width g.A.Answer.facts g.A.Answer.spent c.self.inside = (c.self.invariant (rw (← c.self.view_is) at c.requires.ready)).0 in
    sound.room

pub lower-requires-clause-timed : goal.lower-requires-clause-timed
lower-requires-clause-timed g c =
    let sound : IsReady g.A.Answer.node g.A.Answer.width g.A.Answer.facts g.A.Answer.spent c.self.inside = (c.self.invariant (rw (← c.self.view_is) at c.requires.ready)).0 in
    timed_below c.self.inside.streams.items _ _ sound.state.next_high sound.state.slack_high sound.state.timed

pub remove_at-requires-clause-read : goal.remove_at-requires-clause-read
remove_at-requires-clause-read g c = (c.self.invariant (rw (← c.self.view_is) at c.requires.ready)).1.0

pub invariant_of-self : goal.invariant_of-self
invariant_of-self g c = λ _.
    let sound : IsReady g.A.Answer.node g.A.Answer.width g.A.Answer.facts g.A.Answer.spent c.self.inside = (c.self.invariant (rw (← c.self.view_is) at c.requires.ready)).0 in
    let idle = idle_first (state_of g.A.Answer.facts c.self.inside) (rw (← c.self.view_is) at c.requires.ready) (rw (← c.self.view_is) at c.requires.idle) in
    let cut = c.first_incomplete-cut.ensures in
    let kept = rw (c.as_slice.ensures.value, cut, ← c.self.view_is) at c.lower.ensures.kept in (
      ready_without _ _ _ _ _ sound idle (record c.self.inside { queries = c.remove_at.new.queries; readers = c.remove_at.new.readers; streams = c.lower.new.streams; ends = c.lower.new.ends }) c.in-Some.place refl refl refl refl refl refl c.remove_at.ensures.queries c.lower.ensures.less.accepted (c.lower.ensures.less.timed _ sound.state.timed)
          (fits_without _ _ _ _ _ sound idle (record c.self.inside { queries = c.remove_at.new.queries; readers = c.remove_at.new.readers; streams = c.lower.new.streams; ends = c.lower.new.ends }) c.in-Some.place refl refl refl refl c.remove_at.ensures.queries kept) c.lower.ensures.room,
      (
        c.remove_at.ensures.read,
        rw c.remove_at.ensures.queries
            (sought_less (unwrap_or c.self.inside.next 0) c.self.inside.first c.self.inside.queries.items idle
            (c.self.invariant (rw (← c.self.view_is) at c.requires.ready)).1.1 c.in-Some.place),
      ),
    )

pub returns-in-Some : goal.returns-in-Some
returns-in-Some g c =
    let here = state_of g.A.Answer.facts c.self.inside in
    let found = rw (← c.self.view_is) at c.in-Some.ensures in
    let sound : IsReady g.A.Answer.node g.A.Answer.width g.A.Answer.facts g.A.Answer.spent c.self.inside = (c.self.invariant (rw (← c.self.view_is) at c.requires.ready)).0 in
    let idle = idle_first (state_of g.A.Answer.facts c.self.inside) (rw (← c.self.view_is) at c.requires.ready) (rw (← c.self.view_is) at c.requires.idle) in
    let cut = c.first_incomplete-cut.ensures in
    let kept = rw (c.as_slice.ensures.value, cut, ← c.self.view_is) at c.lower.ensures.kept in
    record {
      was_ready = c.requires.ready;
      ready = rw (← c.self.view_is) at c.requires.ready;
      stands = λ world stands.
          let before : Stands here world [] = rw (← c.self.view_is) at stands in
          cancel_leads here (state_of g.A.Answer.facts (record c.self.inside { queries = c.remove_at.new.queries; readers = c.remove_at.new.readers; streams = c.lower.new.streams; ends = c.lower.new.ends })) c.args.name.now c.in-Some.place found.0 world idle sound.state.names found.1 found.2 before refl refl refl refl refl (lives _ _ _ _ _ sound idle (record c.self.inside { queries = c.remove_at.new.queries; readers = c.remove_at.new.readers; streams = c.lower.new.streams; ends = c.lower.new.ends }) c.in-Some.place refl refl refl refl c.remove_at.ensures.queries kept)
          (fits_without _ _ _ _ _ sound idle (record c.self.inside { queries = c.remove_at.new.queries; readers = c.remove_at.new.readers; streams = c.lower.new.streams; ends = c.lower.new.ends }) c.in-Some.place refl refl refl refl c.remove_at.ensures.queries kept world.items before.fits);
    }

pub returns-in-None : goal.returns-in-None
returns-in-None g c = no_query_refuses c.args.self.now c.args.name.now c.requires.ready c.in-None.ensures
