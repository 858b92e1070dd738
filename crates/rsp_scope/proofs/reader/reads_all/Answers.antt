use Rattle.std.proofs.Common.{◌+◌, ◌∙◌, ap, sym, drop, arith}
use Rattle.std.proofs.lemmas.Int.{ints}
use Rattle.std.proofs.lemmas.List.{drop_all}
use Rattle.rsp_multiset.specs.Weights.{only, weight}
use Rattle.rsp_terms.specs.Same.{fact_eq}
use Rattle.rsp_scope.proofs.Reading.{only-none, only-sum, read_one}
use Rattle.rsp_scope.proofs.reader.reads_all.Goals as goal

pub loop-index-preserved : goal.loop-index-preserved
loop-index-preserved g c q =
    let read = g.R.Reader.is_read c.args.reader.now in
    let fact = c.counted_at.result.0.now in
    let count = c.counted_at.result.1 in
    let rest = ap (λ l. weight fact_eq l q) c.counted_at.ensures.rest in
    let parts = ap (only (read q)) rest ∙ only-sum (read q) (only (fact_eq q fact) count) (weight fact_eq (drop (c.loop-index.index + 1) c.args.changes.now) q) in
    let one = read_one read fact q count (sym c.reads.ensures ∙ c.if-not-reads.false) in
    let so_far = c.loop-index.invariant q in
    omega (arith, ints, rest, parts, one, so_far)

pub returns : goal.returns
returns g c is q =
    let read = g.R.Reader.is_read c.args.reader.now in
    let none = ap (λ l. weight fact_eq l q) (drop_all c.loop-index.index c.args.changes.now (omega arith)) in
    let unread = ap (only (read q)) none ∙ only-none (read q) in
    let so_far = c.loop-index.invariant q in
    omega (arith, ints, none, unread, so_far)
