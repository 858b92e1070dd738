use Rattle.std.proofs.Common.{sym}
use Rattle.rsp_events.proofs.BufferLaws.{pieces_length}
use Rattle.rsp_events.proofs.buffers.Lines.len.Goals as goal

pub returns : goal.returns
returns c = rw (← c.self.view_is) (sym (pieces_length _ _ _))
