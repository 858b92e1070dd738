use Rattle.std.proofs.Common.{ap, subst, sym}
use Rattle.std.specs.List.{All}
use Rattle.rsp_report.specs.Due.{IsWatched}
use Rattle.rsp_engine.specs.Watching.{IsPolicy}
use Rattle.rsp_engine.specs.World.{Registration}
use Rattle.rsp_engine.proofs.Reported.{reported_dated}
use Rattle.rsp_engine.proofs.reporting.report_at.Goals as goal

pub look-requires-clause-policy : goal.look-requires-clause-policy
look-requires-clause-policy g c =
    subst IsPolicy (sym (ap (λ (r : Registration). r.reading.policy) c.in_ok-outcome.ensures.reported.same)) c.requires.policy

pub look-requires-clause-watched : goal.look-requires-clause-watched
look-requires-clause-watched g c = subst (All IsWatched) (sym c.in_ok-outcome.ensures.reported.watched) c.requires.watched

pub returns-clause-reported : goal.returns-clause-reported
returns-clause-reported g c =
    reported_dated g.A.Answer.node g.A.Answer.width g.A.Answer.facts g.A.Answer.spent c.args.streams.now c.args.stored.now c.args.log.now c.args.at
    c.args.live.now c.in_ok-outcome.outcome c.outcome_at.new.live c.look.new.live c.look.ensures.same c.in_ok-outcome.ensures.reported
