use Rattle.std.proofs.Common.{sym, ap, ◌∙◌}
use Rattle.std.proofs.lemmas.Result.{IfOk-weaker}
use Rattle.rsp_multiset.specs.Rows.{row_eq}
use Rattle.rsp_multiset.specs.Weights.{times}
use Rattle.rsp_terms.specs.Same.{term_eq}
use Rattle.rsp_streams_out.proofs.Turned.{in_order-times}
use Rattle.rsp_streams_out.proofs.turning.in_their_order.Goals as goal

pub returns-clause-rows : goal.returns-clause-rows
returns-clause-rows c =
    IfOk-weaker c.printed.result _ _
    (λ out same wanted alike.
    sym (same wanted (λ q. sym (ap (λ rows. times (row_eq term_eq) rows q) c.from_vec.ensures ∙ alike q))))
    c.printed.ensures.same

pub returns-clause-counts : goal.returns-clause-counts
returns-clause-counts c =
    IfOk-weaker c.printed.result _ _
    (λ out is q.
    ap (λ rows. times (row_eq term_eq) rows q) is
    ∙ in_order-times c.from_vec.result q
    ∙ ap (λ rows. times (row_eq term_eq) rows q) c.from_vec.ensures)
    c.printed.ensures.value
