use Rattle.std.proofs.Common.{length, sym}
use Rattle.rsp_events.proofs.BufferLaws.{bounds_at, piece_at}
use Rattle.rsp_events.proofs.buffers.piece.Goals as goal

pub slice_bounds-result-count : goal.slice_bounds-result-count
slice_bounds-result-count c =
    rw c.start_at.ensures (bounds_at c.args.start c.args.ends.now (length c.args.bytes.now) c.args.place c.requires.cut c.requires.place).0

pub slice_bounds-result-start : goal.slice_bounds-result-start
slice_bounds-result-start c =
    rw c.start_at.ensures (bounds_at c.args.start c.args.ends.now (length c.args.bytes.now) c.args.place c.requires.cut c.requires.place).0

pub slice_bounds-result-end : goal.slice_bounds-result-end
slice_bounds-result-end c =
    (bounds_at c.args.start c.args.ends.now (length c.args.bytes.now) c.args.place c.requires.cut c.requires.place).1

pub returns : goal.returns
returns c = rw c.start_at.ensures (sym (piece_at c.args.bytes.now c.args.start c.args.ends.now c.args.place _ c.requires.place))
