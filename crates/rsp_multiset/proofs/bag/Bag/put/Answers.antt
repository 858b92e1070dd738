use Rattle.std.proofs.Common.{◌+ℤ◌, ap, subst, ◌∙◌, arith}
use Rattle.std.specs.Cmp.Lexicographic.{lists_equiv, options_equiv}
use Rattle.std.proofs.lemmas.Int.{ints}
use Rattle.rsp_multiset.specs.Rows.{row_eq}
use Rattle.rsp_multiset.specs.RowSame.{row_decides}
use Rattle.rsp_multiset.specs.Weights.{weight, only, cardinality, AreCounts}
use Rattle.rsp_multiset.proofs.Signs.{counts-from_weights, altered-ge, cardinality-altered}
use Rattle.rsp_multiset.proofs.bag.Bag.put.Goals as goal

pub returns-clause-ok : goal.returns-clause-ok
returns-clause-ok g c = λ q. c.in_ok-add.ensures.ok q ∙ (λ i. weight (row_eq g.V.PartialEq.eq) (c.self.view_is i) q +ℤ only (row_eq g.V.PartialEq.eq q c.args.row) c.args.times)

pub invariant_of-self-2 : goal.invariant_of-self-2
invariant_of-self-2 g c =
    let same = row_decides g.met.V.Cell.identical in
    let counts = subst (AreCounts (row_eq g.V.PartialEq.eq)) c.self.view_is c.self.invariant.0 in
    let sums = returns-clause-ok g c in (
      counts-from_weights (lists_equiv (options_equiv g.met.V.Eq.laws)) c.add.new.self c.add.ensures.changes (altered-ge same c.args.self.now c.add.new.self c.args.row c.args.times counts (λ less. let some = c.requires in omega (arith, ints)) sums),
      (let rows = c.in_ok-rows.ensures in
          let size = c.size.ensures in
          let some = c.requires in
          let held = c.self.invariant.1 ∙ ap cardinality c.self.view_is in
          let after = cardinality-altered same c.args.self.now c.add.new.self c.args.row c.args.times sums in
          omega (arith, ints)),
    )
