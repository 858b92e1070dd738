use Rattle.std.proofs.Common.{arith}
use Rattle.rsp_engine.specs.Inside.{asked}
use Rattle.rsp_engine.specs.Watching.{name_of, reports_by}
use Rattle.rsp_engine.proofs.FirstPlaces.{here}
use Rattle.rsp_engine.proofs.Left.{ended}
use Rattle.rsp_engine.proofs.schedule.first_on_item.Goals as goal

pub returns-in_err-query : goal.returns-in_err-query
returns-in_err-query g c =
    rw c.from_residual.ensures
    (ended (λ live. name_of (asked live)) (λ t live. reports_by c.args.next c.args.arrived.now t (asked live)) c.args.queries.now c.args.next
    c.args.next c.args.number c.in_err-query.ensures (omega arith))

pub returns : goal.returns
returns g c =
    here (λ live. name_of (asked live)) (λ t live. reports_by c.args.next c.args.arrived.now t (asked live)) c.args.queries.now c.args.next
    c.args.next c.args.number c.in_ok-query.query (omega arith) c.in_ok-query.ensures
