use Rattle.std.proofs.Common.{◌≡◌, ◌∙◌, rules, true, false}
use Rattle.rsp_report.specs.Due.{is_due_on_item}
use Rattle.rsp_report.proofs.Unseen.{due_on_item_unseen}
use Rattle.rsp_report.proofs.instants.due_on_item.Goals as goal

pub returns-then-not-some_shows_new-clause-unseen : goal.returns-then-not-some_shows_new-clause-unseen
returns-then-not-some_shows_new-clause-unseen c = λ other same.
    let value : false ≡ is_due_on_item c.args.policy.now c.args.watched.now c.args.t = search rules in
    value ∙ due_on_item_unseen c.args.policy.now c.args.watched.now other c.args.t same

pub returns-then-not-some_content-clause-unseen : goal.returns-then-not-some_content-clause-unseen
returns-then-not-some_content-clause-unseen c = λ other same.
    let value : false ≡ is_due_on_item c.args.policy.now c.args.watched.now c.args.t = search rules in
    value ∙ due_on_item_unseen c.args.policy.now c.args.watched.now other c.args.t same

pub returns-clause-unseen : goal.returns-clause-unseen
returns-clause-unseen c = λ other same.
    let value : true ≡ is_due_on_item c.args.policy.now c.args.watched.now c.args.t = search rules in
    value ∙ due_on_item_unseen c.args.policy.now c.args.watched.now other c.args.t same
