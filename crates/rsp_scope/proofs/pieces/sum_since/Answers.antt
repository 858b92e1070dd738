use Rattle.std.proofs.Common.{◌+◌, drop, nat_lt, refl, arith}
use Rattle.rsp_multiset.specs.Weights.{only, weight}
use Rattle.rsp_terms.specs.Same.{fact_eq}
use Rattle.rsp_scope.specs.Logged.{pieces_since}
use Rattle.rsp_scope.proofs.LogLaws.{since-next}
use Rattle.rsp_scope.proofs.Reading.{next_read, none_left}
use Rattle.rsp_scope.proofs.pieces.sum_since.Goals as goal

pub loop-piece-preserved : goal.loop-piece-preserved
loop-piece-preserved g c q =
    let pieces = c.args.pieces.now in
    let i = c.loop-piece.piece-index in
    let piece = c.piece-item.result in
    next_read (g.R.Reader.is_read c.args.reader.now q) (pieces_since (drop i pieces) c.args.place q)
    (only (nat_lt c.args.place piece.end) (weight fact_eq piece.changes q)) (pieces_since (drop (i + 1) pieces) c.args.place q)
    (weight fact_eq c.loop-piece.sum q) (weight fact_eq c.add_seen.new.sum q) _
    (since-next pieces i piece c.args.place q c.loop-piece-test.true c.piece-item.is) (c.in_ok-add_seen.ensures q) (c.loop-piece.invariant q)

pub returns : goal.returns
returns g c q =
    none_left (g.R.Reader.is_read c.args.reader.now q) (λ l. pieces_since l c.args.place q) c.args.pieces.now c.loop-piece.piece-index
    (weight fact_eq c.loop-piece.sum q) _ refl (omega arith) (c.loop-piece.invariant q)
