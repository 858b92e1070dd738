use Rattle.rsp_report.proofs.Agreement.{due_by_all}
use Rattle.rsp_report.proofs.Unseen.{least_unseen}
use Rattle.rsp_report.proofs.leaps.next_due.Goals as goal

pub returns-clause-least : goal.returns-clause-least
returns-clause-least c = due_by_all c.args.policy.now c.args.watched.now _ _ _ c.next_of_all.ensures

pub returns-clause-unseen : goal.returns-clause-unseen
returns-clause-unseen c = λ other same.
    least_unseen c.args.policy.now c.args.watched.now other _ _ _ same (due_by_all c.args.policy.now c.args.watched.now _ _ _ c.next_of_all.ensures)
