use Rattle.rsp_report.proofs.PolicyLaws.{choice_is, mixed_is}
use Rattle.rsp_report.proofs.chosen.policy.Goals as goal

pub returns-clause-choice : goal.returns-clause-choice
returns-clause-choice c = rw (choice_is c.args.words.now) c.asked.ensures.choice

pub returns-clause-mix : goal.returns-clause-mix
returns-clause-mix c = rw (mixed_is c.args.words.now) c.asked.ensures.mix
