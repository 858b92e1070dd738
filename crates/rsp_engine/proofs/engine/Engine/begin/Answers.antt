use Rattle.std.proofs.Common.{◌≡◌, ◌∙◌, ap, sym}
use Rattle.rsp_query.specs.Meanings.{registered}
use Rattle.rsp_engine.specs.Accept.{new_query}
use Rattle.rsp_engine.specs.Inside.{asked, live_of}
use Rattle.rsp_engine.specs.Passing.{Begins, is_refused_slack}
use Rattle.rsp_engine.specs.Readings.{reading_of}
use Rattle.rsp_engine.specs.Stands.{State, registration_of}
use Rattle.rsp_engine.specs.World.{Registration}
use Rattle.rsp_engine.proofs.Begun.{begun_calm, begun_prompt, begun_tells, begun_up_to}
use Rattle.rsp_engine.proofs.Offering.{begun_offers, breaks, overfull_refuses}
use Rattle.rsp_engine.proofs.Readiness.{idle_first}
use Rattle.rsp_engine.proofs.engine.Engine.begin.Goals as goal

pub go_live-requires-clause-begins : goal.go_live-requires-clause-begins
go_live-requires-clause-begins g c =
    let begun = rw c.in-Ok-Some.field-0-is at c.in-Ok-Some.ensures.query in
    let watched = rw c.in-Ok-Some.field-0-is at c.in-Ok-Some.ensures.watched in
    record {
      first = rw (← c.self.view_is) (ap (λ (r : Registration). r.first) begun.1 ∙ c.accepted.ensures);
      told = λ items from first. begun_tells items from (registration_of (live_of g.A.Answer.facts c.in-Ok-Some.query)) c.in-Ok-Some.query.watched.items first watched;
      unreported = begun.2;
      unseen = rw c.in-Ok-Some.field-0-is at c.in-Ok-Some.ensures.seen;
      unmoved = rw c.in-Ok-Some.field-0-is at c.in-Ok-Some.ensures.unmoved;
    }

pub go_live-requires-clause-prompt : goal.go_live-requires-clause-prompt
go_live-requires-clause-prompt g c =
    begun_prompt _ _ (asked c.in-Ok-Some.query) (rw c.in-Ok-Some.field-0-is at c.in-Ok-Some.ensures.policy) (rw c.in-Ok-Some.field-0-is at c.in-Ok-Some.ensures.watched)

pub go_live-requires-clause-up_to : goal.go_live-requires-clause-up_to
go_live-requires-clause-up_to g c = λ latest.
    begun_up_to latest c.in-Ok-Some.query.watched.items c.in-Ok-Some.query.windows (rw c.in-Ok-Some.field-0-is at c.in-Ok-Some.ensures.watched)

pub go_live-requires-clause-instants : goal.go_live-requires-clause-instants
go_live-requires-clause-instants g c =
    let begun = rw c.in-Ok-Some.field-0-is at c.in-Ok-Some.ensures.query in
    let policy : c.in-Ok-Some.query.policy ≡ c.args.asked.policy = ap (λ (r : Registration). r.reading.policy) begun.1 ∙ sym c.requires.asked.policy in
    ap (is_refused_slack c.args.self.now) policy ∙ c.requires.instants

pub go_live-requires-clause-calm : goal.go_live-requires-clause-calm
go_live-requires-clause-calm g c = begun_calm c.in-Ok-Some.query.watched.items c.in-Ok-Some.query.windows (rw c.in-Ok-Some.field-0-is at c.in-Ok-Some.ensures.watched)

pub go_live-requires-clause-sought : goal.go_live-requires-clause-sought
go_live-requires-clause-sought g c = rw (c.in-Ok-Some.field-0-is, c.first_incomplete-next.ensures) at c.in-Ok-Some.ensures.sought

pub returns-in-Ok-Some : goal.returns-in-Ok-Some
returns-in-Ok-Some g c = λ text is.
    let old = c.args.self.now in
    let q = registered c.args.asked.query.value in
    let begun = rw c.in-Ok-Some.field-0-is at c.in-Ok-Some.ensures.query in
    let watched = rw c.in-Ok-Some.field-0-is at c.in-Ok-Some.ensures.watched in
    let made : registration_of (live_of g.A.Answer.facts c.in-Ok-Some.query) ≡ (new_query c.args.name (reading_of q) old.kept.accepted).registration = rw (← c.self.view_is) (begun.1 ∙ ap (λ n. (new_query c.args.name (reading_of q) n).registration) c.accepted.ensures) in
    let idle = idle_first old c.requires.ready c.requires.idle in
    let begins : Begins old (live_of g.A.Answer.facts c.in-Ok-Some.query) = record {
      first = rw (← c.self.view_is) (ap (λ (r : Registration). r.first) begun.1 ∙ c.accepted.ensures);
      told = λ items from first. begun_tells items from (registration_of (live_of g.A.Answer.facts c.in-Ok-Some.query)) c.in-Ok-Some.query.watched.items first watched;
      unreported = begun.2;
      unseen = rw c.in-Ok-Some.field-0-is at c.in-Ok-Some.ensures.seen;
      unmoved = rw c.in-Ok-Some.field-0-is at c.in-Ok-Some.ensures.unmoved;
    } in
    begun_offers old c.go_live.new.self c.args.name text q (live_of g.A.Answer.facts c.in-Ok-Some.query) c.go_live.result c.requires.ready made begins idle c.requires.free is c.requires.asked.translated.sound c.requires.asked.unmixed (ap (is_refused_slack c.args.self.now) (sym c.requires.asked.policy) ∙ c.requires.instants) c.requires.few begun.0 c.go_live.ensures.ok c.go_live.ensures.err

pub returns-in-Ok-None : goal.returns-in-Ok-None
returns-in-Ok-None g c = λ text is.
    let starts = rw c.in-Ok-None.field-0-is at c.in-Ok-None.ensures.query in
    overfull_refuses c.args.self.now c.args.name text (registered c.args.asked.query.value) c.requires.ready c.requires.free is c.requires.asked.translated.sound c.requires.asked.unmixed (ap (is_refused_slack c.args.self.now) (sym c.requires.asked.policy) ∙ c.requires.instants) c.requires.few starts

pub returns-in-Err : goal.returns-in-Err
returns-in-Err g c = λ text is.
    breaks c.args.self.now c.args.name text c.break_off.result c.break_off.new.self c.requires.ready c.requires.free c.break_off.ensures.value (ap (λ (s : State). s.broken) c.break_off.ensures.state)
