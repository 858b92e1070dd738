use Rattle.rsp_events.proofs.Reading.{beginning}
use Rattle.rsp_events.proofs.blocks.Blocks.feed.Goals as goal

pub returns-then-self-clause-prefix : goal.returns-then-self-clause-prefix
returns-then-self-clause-prefix c = beginning _

pub returns-then-is_err-clause-prefix : goal.returns-then-is_err-clause-prefix
returns-then-is_err-clause-prefix c = beginning _

pub returns-else-is_err-clause-prefix : goal.returns-else-is_err-clause-prefix
returns-else-is_err-clause-prefix c = beginning _
