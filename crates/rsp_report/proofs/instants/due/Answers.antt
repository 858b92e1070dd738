use Rattle.std.proofs.Common.{◌≡◌, ◌∙◌, rules, false}
use Rattle.rsp_report.specs.Due.{is_due}
use Rattle.rsp_report.proofs.Unseen.{due_unseen}
use Rattle.rsp_report.proofs.instants.due.Goals as goal

pub returns-then-not-some_closes-clause-unseen : goal.returns-then-not-some_closes-clause-unseen
returns-then-not-some_closes-clause-unseen c = λ other same.
    let value : false ≡ is_due c.args.policy.now c.args.watched.now c.args.t = search rules in
    value ∙ due_unseen c.args.policy.now c.args.watched.now other c.args.t same

pub returns-then-not-some_changes-clause-unseen : goal.returns-then-not-some_changes-clause-unseen
returns-then-not-some_changes-clause-unseen c = λ other same.
    let value : false ≡ is_due c.args.policy.now c.args.watched.now c.args.t = search rules in
    value ∙ due_unseen c.args.policy.now c.args.watched.now other c.args.t same

pub returns-then-not-some_content-clause-unseen : goal.returns-then-not-some_content-clause-unseen
returns-then-not-some_content-clause-unseen c = λ other same.
    let value : false ≡ is_due c.args.policy.now c.args.watched.now c.args.t = search rules in
    value ∙ due_unseen c.args.policy.now c.args.watched.now other c.args.t same

pub returns-clause-unseen : goal.returns-clause-unseen
returns-clause-unseen c = λ other same.
    let value : c.divides.result ≡ is_due c.args.policy.now c.args.watched.now c.args.t = search rules in
    value ∙ due_unseen c.args.policy.now c.args.watched.now other c.args.t same
