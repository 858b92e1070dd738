use Rattle.std.proofs.Common.{◌<◌, length, sym, subst, arith}
use Rattle.rsp_events.specs.Buffers.{pieces}
use Rattle.rsp_events.proofs.BufferLaws.{pieces_length}
use Rattle.rsp_events.proofs.buffers.Lines.line.Goals as goal

pub piece-requires-clause-place : goal.piece-requires-clause-place
piece-requires-clause-place c =
    let lines = pieces c.self.inside.bytes.now c.self.inside.start c.self.inside.ends.now in
    let below : c.args.place < length lines = subst (λ ls. c.args.place < length ls) (sym c.self.view_is) c.requires in
    omega (arith, below, pieces_length c.self.inside.bytes.now c.self.inside.start c.self.inside.ends.now)
