use Rattle.std.proofs.Common.{◌≡◌, pos, ◌∙◌, arith}
use Rattle.std.proofs.lemmas.Int.{ints}
use Rattle.rsp_multiset.specs.Rows.{row_eq}
use Rattle.rsp_multiset.specs.Weights.{weight}
use Rattle.rsp_multiset.proofs.Signs.{weight-ge}
use Rattle.rsp_multiset.proofs.bag.Bag.count.Goals as goal

pub returns : goal.returns
returns g c =
    let held = weight-ge (row_eq g.V.PartialEq.eq) c.self.inside.counts c.self.invariant.0 c.args.row.now in
    let count = c.count.ensures in
    let size = c.size.ensures in
    let found : pos c.size.result ≡ weight (row_eq g.V.PartialEq.eq) c.self.inside.counts c.args.row.now = omega (arith, ints) in
    found ∙ (λ i. weight (row_eq g.V.PartialEq.eq) (c.self.view_is i) c.args.row.now)
