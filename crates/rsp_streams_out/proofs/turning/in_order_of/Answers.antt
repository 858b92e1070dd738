use Rattle.rsp_streams_out.proofs.Turned.{in_order_ok, in_order_counts}
use Rattle.rsp_streams_out.proofs.turning.in_order_of.Goals as goal

pub returns-clause-rows : goal.returns-clause-rows
returns-clause-rows c = in_order_ok c.printed.result c.in_ok-rows_of.field-0 c.args.bag.now c.in_ok-rows_of.ensures c.printed.ensures.same

pub returns-clause-counts : goal.returns-clause-counts
returns-clause-counts c =
    in_order_counts c.printed.result c.in_ok-rows_of.field-0 c.args.bag.now c.in_ok-rows_of.ensures c.printed.ensures.value
