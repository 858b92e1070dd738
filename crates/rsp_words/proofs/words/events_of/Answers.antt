use Rattle.std.proofs.Common.{sym}
use Rattle.rsp_words.proofs.Slack.{log_within}
use Rattle.rsp_words.proofs.words.events_of.Goals as goal

pub returns-in-Some-clause-limits : goal.returns-in-Some-clause-limits
returns-in-Some-clause-limits c = log_within c.args.more.now c.in-Some.log (sym c.in-Some.ensures)
