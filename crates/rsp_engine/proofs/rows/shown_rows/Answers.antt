use Rattle.rsp_engine.proofs.OrderedRows.{ordered_ok}
use Rattle.rsp_engine.proofs.rows.shown_rows.Goals as goal

pub returns : goal.returns
returns c =
    ordered_ok c.printed.result c.in_ok-rows.rows.items c.in_ok-all_cut.field-0 c.args.shown.now c.args.solutions c.in_ok-rows.ensures
    c.in_ok-all_cut.ensures
    c.printed.ensures.same
