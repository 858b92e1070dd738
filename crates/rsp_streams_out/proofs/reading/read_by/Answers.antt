use Rattle.std.proofs.Common.{arith}
use Rattle.rsp_streams_out.proofs.NoneGone.{none_gone}
use Rattle.rsp_streams_out.proofs.reading.read_by.Goals as goal

pub returns-in-Dstream : goal.returns-in-Dstream
returns-in-Dstream c = (grind (arith, c.if-not-has_reported-2.true), λ present. rw c.in-Dstream.is (none_gone present))
