use Rattle.std.proofs.Common.{◌+ℤ◌, ◌≤ℤ◌, ◌<ℤ◌, ◌≤◌, ◌+◌, pos, drop, length, refl, sym, subst, arith}
use Rattle.std.specs.Cmp.Lexicographic.{lists_equiv, options_equiv}
use Rattle.std.proofs.lemmas.Int.{ints}
use Rattle.rsp_multiset.specs.Rows.{row_eq}
use Rattle.rsp_multiset.specs.RowSame.{row_decides}
use Rattle.rsp_multiset.specs.Weights.{weight, below}
use Rattle.rsp_multiset.proofs.Signs.{part, part-rest, part-end, weight-part, below-part, enough, enough-here, enough-after}
use Rattle.rsp_multiset.proofs.parts.take_rows.Goals as goal

pub loop-index-init : goal.loop-index-init
loop-index-init g c = (
  λ q. refl,
  λ q.
      subst
      (λ n. n <ℤ pos 0 → pos 0 ≤ℤ (weight (row_eq g.V.PartialEq.eq) c.args.bag.now q +ℤ n))
      (sym (weight-part (lists_equiv (options_equiv g.met.V.Eq.laws)) below refl c.args.changes.now c.distinct-index-end.ensures.changes.distinct q))
      (enough (weight (row_eq g.V.PartialEq.eq) c.args.bag.now q) (weight (row_eq g.V.PartialEq.eq) c.args.changes.now q) (c.requires q)),
)

pub take_row-requires : goal.take_row-requires
take_row-requires g c =
    let eq = row_eq g.V.PartialEq.eq in
    let row = c.counted_at-count.result.0.now in
    let split = part-rest eq below (drop c.loop-index.index c.args.changes.now) (drop (c.loop-index.index + 1) c.args.changes.now) row c.counted_at-count.result.1 c.counted_at-count.ensures.rest row in
    enough-here
    c.counted_at-count.result.1
    (eq row row)
    (weight eq (part below (drop c.loop-index.index c.args.changes.now)) row)
    (weight eq (part below (drop (c.loop-index.index + 1) c.args.changes.now)) row)
    (weight eq c.loop-index.bag row)
    ((row_decides g.met.V.Cell.identical row row).1 refl)
    split
    (below-part eq (drop (c.loop-index.index + 1) c.args.changes.now) row)
    (c.loop-index.invariant.1 row)

pub loop-index-preserved : goal.loop-index-preserved
loop-index-preserved g c =
    let eq = row_eq g.V.PartialEq.eq in
    let row = c.counted_at-count.result.0.now in
    let count = c.counted_at-count.result.1 in
    let here = drop c.loop-index.index c.args.changes.now in
    let after = drop (c.loop-index.index + 1) c.args.changes.now in (
      λ q.
          let step = c.take_row.ensures q in
          let rest = part-rest eq below here after row count c.counted_at-count.ensures.rest q in
          let before = c.loop-index.invariant.0 q in
          omega (arith, ints),
      λ q.
          enough-after
          count
          (eq q row)
          (weight eq (part below here) q)
          (weight eq (part below after) q)
          (weight eq c.loop-index.bag q)
          (weight eq c.take_row.new.bag q)
          (part-rest eq below here after row count c.counted_at-count.ensures.rest q)
          (c.take_row.ensures q)
          (c.loop-index.invariant.1 q),
    )

pub returns : goal.returns
returns g c = λ q.
    let past : length c.args.changes.now ≤ c.loop-index.index = grind arith in
    let before = c.loop-index.invariant.0 q in
    let end = part-end (row_eq g.V.PartialEq.eq) below c.args.changes.now c.loop-index.index past q in
    let all = weight-part (lists_equiv (options_equiv g.met.V.Eq.laws)) below refl c.args.changes.now c.distinct-index-end.ensures.changes.distinct q in
    omega (arith, ints)
