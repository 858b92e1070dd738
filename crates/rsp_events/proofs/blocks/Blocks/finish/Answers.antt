use Rattle.std.proofs.Common.{◌∙◌, ap}
use Rattle.rsp_events.specs.Begun.{begun_block_of, begun_line_of}
use Rattle.rsp_events.proofs.Reading.{beginning}
use Rattle.rsp_events.proofs.blocks.Blocks.finish.Goals as goal

pub returns-then-self-clause-prefix : goal.returns-then-self-clause-prefix
returns-then-self-clause-prefix c = beginning _

pub returns-clause-prefix : goal.returns-clause-prefix
returns-clause-prefix c = beginning _

-- nothing has begun behind the bytes that were read
pub returns-clause-empty : goal.returns-clause-empty
returns-clause-empty c before read line group =
    c.last_block-last.ensures.empty (read.line ∙ ap begun_line_of line) (read.block ∙ ap begun_block_of group)
