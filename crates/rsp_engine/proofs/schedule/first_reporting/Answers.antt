use Rattle.std.proofs.Common.{None, subst, sym}
use Rattle.rsp_engine.specs.Inside.{asked}
use Rattle.rsp_engine.specs.Left.{IsFirstAt}
use Rattle.rsp_engine.specs.Watching.{reports_by}
use Rattle.rsp_engine.proofs.FirstPlaces.{first_arrived, none_arrived}
use Rattle.rsp_engine.proofs.schedule.first_reporting.Goals as goal

pub first_over-requires-clause-read : goal.first_over-requires-clause-read
first_over-requires-clause-read g c = c.requires.read.watchers c.in-Some.stream

pub returns-in-Some : goal.returns-in-Some
returns-in-Some g c =
    subst (λ o. IsFirstAt (λ live. reports_by c.args.next o c.args.next (asked live)) c.args.queries.now c.args.number c.first_over.result) (sym c.in-Some.is)
    (first_arrived c.args.next c.in-Some.stream c.args.queries.now c.args.number c.first_over.result c.first_over.ensures)

pub returns-in-None : goal.returns-in-None
returns-in-None g c =
    subst (λ o. IsFirstAt (λ live. reports_by c.args.next o c.args.next (asked live)) c.args.queries.now c.args.number None) (sym c.in-None.is)
    (none_arrived c.args.next c.args.queries.now c.args.number)
