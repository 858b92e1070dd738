use Rattle.rsp_events.proofs.Reading.{beginning}
use Rattle.rsp_events.proofs.blocks.Blocks.new.Goals as goal

pub returns-clause-prefix : goal.returns-clause-prefix
returns-clause-prefix c = beginning _
