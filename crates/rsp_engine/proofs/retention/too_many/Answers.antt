use Rattle.std.proofs.Common.{arith}
use Rattle.rsp_engine.proofs.KeptEnds.{no_excess}
use Rattle.rsp_engine.proofs.retention.too_many.Goals as goal

pub returns-then-held-room : goal.returns-then-held-room
returns-then-held-room c =
    no_excess c.args.streams.now c.args.time c.args.triples
    (omega (arith, c.if-held-room.true, c.held.ensures, c.requires.small))
