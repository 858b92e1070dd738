use Rattle.std.proofs.Common.{◌∙◌}
use Rattle.std.proofs.lemmas.Result.{IfOk-weaker}
use Rattle.rsp_streams_out.proofs.Turned.{new_rows, new_counts, gone_rows, gone_counts}
use Rattle.rsp_streams_out.proofs.turning.turn_printed.Goals as goal

pub returns-in_ok-positive-in-Istream-clause-rows : goal.returns-in_ok-positive-in-Istream-clause-rows
returns-in_ok-positive-in-Istream-clause-rows c =
    let is = c.in-Istream.is in
    IfOk-weaker c.in_order_of-in-Istream-2.result _ _
    (λ rows are preceding present joins.
    rw is (are _ (new_rows c.args.change.now preceding present (rw is at joins) _ c.in_ok-positive-in-Istream.ensures)))
    c.in_order_of-in-Istream-2.ensures.rows

pub returns-in_ok-positive-in-Istream-clause-counts : goal.returns-in_ok-positive-in-Istream-clause-counts
returns-in_ok-positive-in-Istream-clause-counts c =
    let is = c.in-Istream.is in
    IfOk-weaker c.in_order_of-in-Istream-2.result _ _
    (λ rows held preceding present joins q.
    rw is (held q ∙ c.in_ok-positive-in-Istream.ensures q ∙ new_counts c.args.change.now preceding present (rw is at joins) q))
    c.in_order_of-in-Istream-2.ensures.counts

pub returns-in_ok-negative-in-Dstream-clause-rows : goal.returns-in_ok-negative-in-Dstream-clause-rows
returns-in_ok-negative-in-Dstream-clause-rows c =
    let is = c.in-Dstream.is in
    IfOk-weaker c.in_order_of-in-Dstream-2.result _ _
    (λ rows are preceding present joins.
    rw is (are _ (gone_rows c.args.change.now preceding present (rw is at joins) _ c.in_ok-negative-in-Dstream.ensures)))
    c.in_order_of-in-Dstream-2.ensures.rows

pub returns-in_ok-negative-in-Dstream-clause-counts : goal.returns-in_ok-negative-in-Dstream-clause-counts
returns-in_ok-negative-in-Dstream-clause-counts c =
    let is = c.in-Dstream.is in
    IfOk-weaker c.in_order_of-in-Dstream-2.result _ _
    (λ rows held preceding present joins q.
    rw is (held q ∙ c.in_ok-negative-in-Dstream.ensures q ∙ gone_counts c.args.change.now preceding present (rw is at joins) q))
    c.in_order_of-in-Dstream-2.ensures.counts
