use Rattle.std.proofs.Common.{◌+ℤ◌, ◌≤◌, ◌+◌, neg_ℤ, drop, length, refl, ap, ◌∙◌, arith}
use Rattle.std.specs.Cmp.Lexicographic.{lists_equiv, options_equiv}
use Rattle.std.proofs.lemmas.Int.{ints}
use Rattle.rsp_multiset.specs.Rows.{row_eq}
use Rattle.rsp_multiset.specs.Weights.{weight, only, above}
use Rattle.rsp_multiset.proofs.Signs.{part-rest, part-end, weight-part}
use Rattle.rsp_multiset.proofs.parts.add_taken_rows.Goals as goal

pub loop-index-preserved : goal.loop-index-preserved
loop-index-preserved g c = λ q.
    let step = c.in_ok-add_row.ensures q ∙ ap (λ n. weight (row_eq g.V.PartialEq.eq) c.loop-index.bag q +ℤ only (row_eq g.V.PartialEq.eq q c.counted_at-count.result.0.now) (above n)) c.opposite.ensures in
    let rest = part-rest (row_eq g.V.PartialEq.eq) (λ n. above (neg_ℤ n)) (drop c.loop-index.index c.args.changes.now) (drop (c.loop-index.index + 1) c.args.changes.now) c.counted_at-count.result.0.now c.counted_at-count.result.1 c.counted_at-count.ensures.rest q in
    let before = c.loop-index.invariant q in
    omega (arith, ints)

pub returns : goal.returns
returns g c = λ q.
    let past : length c.args.changes.now ≤ c.loop-index.index = grind arith in
    let before = c.loop-index.invariant q in
    let end = part-end (row_eq g.V.PartialEq.eq) (λ n. above (neg_ℤ n)) c.args.changes.now c.loop-index.index past q in
    let all = weight-part (lists_equiv (options_equiv g.met.V.Eq.laws)) (λ n. above (neg_ℤ n)) refl c.args.changes.now c.distinct-index-end.ensures.changes.distinct q in
    omega (arith, ints)
