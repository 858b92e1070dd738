use Rattle.std.proofs.Common.{◌+ℤ◌, ◌≤◌, neg_ℤ, pos, ap, subst, ◌∙◌, arith}
use Rattle.std.specs.Cmp.Lexicographic.{lists_equiv, options_equiv}
use Rattle.std.proofs.lemmas.Int.{ints}
use Rattle.rsp_multiset.specs.Rows.{row_eq}
use Rattle.rsp_multiset.specs.RowSame.{row_decides}
use Rattle.rsp_multiset.specs.Weights.{weight, only, cardinality, AreCounts}
use Rattle.rsp_multiset.proofs.Signs.{counts-from_weights, altered-ge, cardinality-altered, weight-le_cardinality}
use Rattle.rsp_multiset.proofs.bag.Bag.take_out.Goals as goal

pub overflow_sub-self : goal.overflow_sub-self
overflow_sub-self g c =
    let eq = row_eq g.V.PartialEq.eq in
    let held = weight-le_cardinality eq c.self.inside.counts c.self.invariant.0 c.args.row.now in
    let view = ap (λ es. weight eq es c.args.row.now) c.self.view_is in
    let rows = c.self.invariant.1 in
    let some = c.requires in
    omega (arith, ints)

pub returns : goal.returns
returns g c = λ q. c.take_out.ensures.taken q ∙ (λ i. weight (row_eq g.V.PartialEq.eq) (c.self.view_is i) q +ℤ only (row_eq g.V.PartialEq.eq q c.args.row.now) (neg_ℤ (pos c.args.times)))

pub invariant_of-self : goal.invariant_of-self
invariant_of-self g c =
    let same = row_decides g.met.V.Cell.identical in
    let counts = subst (AreCounts (row_eq g.V.PartialEq.eq)) c.self.view_is c.self.invariant.0 in
    let sums = returns g c in
    let some = c.requires in (
      counts-from_weights (lists_equiv (options_equiv g.met.V.Eq.laws)) c.take_out.new.self c.take_out.ensures.changes (altered-ge same c.args.self.now c.take_out.new.self c.args.row.now (neg_ℤ (pos c.args.times)) counts (λ less. omega (arith, ints)) sums),
      (let held = c.self.invariant.1 ∙ ap cardinality c.self.view_is in
          let most = weight-le_cardinality (row_eq g.V.PartialEq.eq) c.args.self.now counts c.args.row.now in
          let within : c.args.times ≤ c.self.inside.rows = omega (arith, ints) in
          let after = cardinality-altered same c.args.self.now c.take_out.new.self c.args.row.now (neg_ℤ (pos c.args.times)) sums in
          omega (arith, ints)),
    )
