use Rattle.std.proofs.Common.{ap, ◌∙◌}
use Rattle.std.proofs.lemmas.Result.{IfOk-weaker}
use Rattle.rsp_multiset.specs.Rows.{row_eq}
use Rattle.rsp_multiset.specs.Weights.{weight, above}
use Rattle.rsp_multiset.proofs.Held.{weight-negated}
use Rattle.rsp_multiset.proofs.moving.outgoing_rows.Goals as goal

pub returns : goal.returns
returns g c =
    IfOk-weaker c.incoming_rows.result _ _
    (λ rows is q.
    is q ∙ ap above (ap (λ es. weight (row_eq g.V.PartialEq.eq) es q) c.negate.ensures ∙ weight-negated (row_eq g.V.PartialEq.eq) c.args.changes q))
    c.incoming_rows.ensures
