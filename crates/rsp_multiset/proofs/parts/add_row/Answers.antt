use Rattle.std.proofs.Common.{◌+ℤ◌, sym, ◌∙◌}
use Rattle.std.proofs.lemmas.Result.{on_ok_weaker}
use Rattle.rsp_multiset.specs.Rows.{row_eq}
use Rattle.rsp_multiset.specs.Weights.{weight, only}
use Rattle.rsp_multiset.proofs.Signs.{above-nonneg, not_below}
use Rattle.rsp_multiset.proofs.parts.add_row.Goals as goal

pub returns : goal.returns
returns g c =
    let so = sym (above-nonneg c.args.count (not_below c.args.count c.is_negative.result c.is_negative.ensures c.if-is_negative.false)) in
    on_ok_weaker
    c.alter.result
    (λ h q. h q ∙ (λ i. weight (row_eq g.V.PartialEq.eq) c.args.bag.now q +ℤ only (row_eq g.V.PartialEq.eq q (c.in_ok-share.ensures i)) (so i)))
    c.alter.ensures.ok
