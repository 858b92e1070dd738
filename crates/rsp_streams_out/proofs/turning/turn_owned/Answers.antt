use Rattle.std.proofs.Common.{◌∙◌}
use Rattle.std.proofs.lemmas.Result.{IfOk-weaker}
use Rattle.rsp_streams_out.proofs.Turned.{new_among, new_counts, gone_among, gone_counts}
use Rattle.rsp_streams_out.proofs.turning.turn_owned.Goals as goal

pub returns-in_ok-incoming_rows-in-Istream-clause-rows : goal.returns-in_ok-incoming_rows-in-Istream-clause-rows
returns-in_ok-incoming_rows-in-Istream-clause-rows c =
    let is = c.in-Istream.is in
    IfOk-weaker c.in_their_order-in-Istream.result _ _
    (λ rows are preceding present joins.
    rw is (are _ (new_among c.args.change preceding present (rw is at joins) _ c.in_ok-incoming_rows-in-Istream.ensures)))
    c.in_their_order-in-Istream.ensures.rows

pub returns-in_ok-incoming_rows-in-Istream-clause-counts : goal.returns-in_ok-incoming_rows-in-Istream-clause-counts
returns-in_ok-incoming_rows-in-Istream-clause-counts c =
    let is = c.in-Istream.is in
    IfOk-weaker c.in_their_order-in-Istream.result _ _
    (λ rows held preceding present joins q.
    rw is (held q ∙ c.in_ok-incoming_rows-in-Istream.ensures q ∙ new_counts c.args.change preceding present (rw is at joins) q))
    c.in_their_order-in-Istream.ensures.counts

pub returns-in_ok-outgoing_rows-in-Dstream-clause-rows : goal.returns-in_ok-outgoing_rows-in-Dstream-clause-rows
returns-in_ok-outgoing_rows-in-Dstream-clause-rows c =
    let is = c.in-Dstream.is in
    IfOk-weaker c.in_their_order-in-Dstream.result _ _
    (λ rows are preceding present joins.
    rw is (are _ (gone_among c.args.change preceding present (rw is at joins) _ c.in_ok-outgoing_rows-in-Dstream.ensures)))
    c.in_their_order-in-Dstream.ensures.rows

pub returns-in_ok-outgoing_rows-in-Dstream-clause-counts : goal.returns-in_ok-outgoing_rows-in-Dstream-clause-counts
returns-in_ok-outgoing_rows-in-Dstream-clause-counts c =
    let is = c.in-Dstream.is in
    IfOk-weaker c.in_their_order-in-Dstream.result _ _
    (λ rows held preceding present joins q.
    rw is (held q ∙ c.in_ok-outgoing_rows-in-Dstream.ensures q ∙ gone_counts c.args.change preceding present (rw is at joins) q))
    c.in_their_order-in-Dstream.ensures.counts

pub returns-in_ok-into_rows-in-Rstream-clause-rows : goal.returns-in_ok-into_rows-in-Rstream-clause-rows
returns-in_ok-into_rows-in-Rstream-clause-rows c =
    let is = c.in-Rstream.is in
    IfOk-weaker c.in_their_order.result _ _
    (λ rows are preceding present stands.
    rw is (are _ (λ q. c.in_ok-into_rows-in-Rstream.ensures q ∙ (rw is at stands) q)))
    c.in_their_order.ensures.rows

pub returns-in_ok-into_rows-in-Rstream-clause-counts : goal.returns-in_ok-into_rows-in-Rstream-clause-counts
returns-in_ok-into_rows-in-Rstream-clause-counts c =
    let is = c.in-Rstream.is in
    IfOk-weaker c.in_their_order.result _ _
    (λ rows held preceding present stands q. rw is (held q ∙ c.in_ok-into_rows-in-Rstream.ensures q ∙ (rw is at stands) q))
    c.in_their_order.ensures.counts
