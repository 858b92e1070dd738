use Rattle.std.proofs.Common.{◌≡◌, ◌∙◌, ap, false, sym, true}
use Rattle.rsp_query.specs.Meanings.{registered}
use Rattle.rsp_engine.specs.Passing.{is_refused_slack}
use Rattle.rsp_engine.proofs.Offering.{full_refuses, slack_refuses}
use Rattle.rsp_engine.proofs.engine.Engine.register_asked.Goals as goal

pub returns-then-refuses_arrivals : goal.returns-then-refuses_arrivals
returns-then-refuses_arrivals g c = λ text is.
    let asked = c.requires.asked in
    slack_refuses c.args.self.now c.args.name text (registered c.args.asked.query.value) c.requires.ready c.requires.free is asked.translated.sound asked.unmixed
    (ap (is_refused_slack c.args.self.now) (sym asked.policy) ∙ (sym c.refuses_arrivals.ensures ∙ c.if-refuses_arrivals.true))

pub returns-then-live-ge-MOST_QUERIES : goal.returns-then-live-ge-MOST_QUERIES
returns-then-live-ge-MOST_QUERIES g c = λ text is.
    let asked = c.requires.asked in
    full_refuses c.args.self.now c.args.name text (registered c.args.asked.query.value) c.requires.ready c.requires.free is asked.translated.sound asked.unmixed
    (ap (is_refused_slack c.args.self.now) (sym asked.policy) ∙ (sym c.refuses_arrivals.ensures ∙ c.if-refuses_arrivals.false)) (rw c.live.ensures at c.if-live-ge-MOST_QUERIES.true)
