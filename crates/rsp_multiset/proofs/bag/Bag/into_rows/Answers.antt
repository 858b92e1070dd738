use Rattle.std.proofs.Common.{◌∙◌}
use Rattle.std.proofs.lemmas.Result.{IfOk-weaker}
use Rattle.rsp_multiset.specs.Rows.{row_eq}
use Rattle.rsp_multiset.specs.Weights.{weight}
use Rattle.rsp_multiset.proofs.Signs.{above-nonneg, weight-ge}
use Rattle.rsp_multiset.proofs.bag.Bag.into_rows.Goals as goal

pub returns : goal.returns
returns g c =
    let eq = row_eq g.V.PartialEq.eq in
    IfOk-weaker c.incoming_rows.result _ _
    (λ rows is q.
    is q
    ∙ above-nonneg (weight eq c.self.inside.counts q) (weight-ge eq c.self.inside.counts c.self.invariant.0 q)
    ∙ (λ i. weight eq (c.self.view_is i) q))
    c.incoming_rows.ensures
