use Rattle.std.proofs.Common.{◌≡◌, ◌+ℤ◌, neg_ℤ, pos, sym, ap, ◌∙◌, arith}
use Rattle.std.proofs.lemmas.Int.{ints}
use Rattle.rsp_multiset.specs.Rows.{row_eq}
use Rattle.rsp_multiset.specs.Weights.{weight, only}
use Rattle.rsp_multiset.proofs.Signs.{below-negative}
use Rattle.rsp_multiset.proofs.parts.take_row.Goals as goal

pub returns-then-is_negative : goal.returns-then-is_negative
returns-then-is_negative g c =
    let negative = c.is_negative.ensures.0 c.if-is_negative.true in
    let size = c.size.ensures in
    let turned : neg_ℤ (pos c.size.result) ≡ c.args.count = omega (arith, ints) in
    let so = turned ∙ sym (below-negative c.args.count negative) in
    λ q. c.take_out.ensures q ∙ ap (λ n. weight (row_eq g.V.PartialEq.eq) c.args.bag.now q +ℤ only (row_eq g.V.PartialEq.eq q c.args.row.now) n) so
