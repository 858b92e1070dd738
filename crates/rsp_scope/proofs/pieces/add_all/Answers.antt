use Rattle.std.proofs.Common.{◌+◌, ap, drop, refl, arith}
use Rattle.rsp_multiset.specs.Weights.{only, weight}
use Rattle.rsp_terms.specs.Same.{fact_eq}
use Rattle.rsp_scope.proofs.Reading.{next_read, none_left}
use Rattle.rsp_scope.proofs.pieces.add_all.Goals as goal

pub loop-index-preserved : goal.loop-index-preserved
loop-index-preserved g c q =
    let changes = c.args.changes.now in
    let i = c.loop-index.index in
    next_read (g.R.Reader.is_read c.args.reader.now q) (weight fact_eq (drop i changes) q)
    (only (fact_eq q c.counted_at-count.result.0.now) c.counted_at-count.result.1) (weight fact_eq (drop (i + 1) changes) q)
    (weight fact_eq c.loop-index.sum q) (weight fact_eq c.add_read.new.changes q) _
    (ap (λ l. weight fact_eq l q) c.counted_at-count.ensures.rest) (c.in_ok-add_read.ensures q) (c.loop-index.invariant q)

pub returns : goal.returns
returns g c q =
    none_left (g.R.Reader.is_read c.args.reader.now q) (λ l. weight fact_eq l q) c.args.changes.now c.loop-index.index
    (weight fact_eq c.loop-index.sum q) _ refl (omega arith) (c.loop-index.invariant q)
