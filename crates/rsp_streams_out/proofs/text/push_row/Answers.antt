use Rattle.std.proofs.Common.{map}
use Rattle.rsp_streams_out.specs.Rows.{cell_text}
use Rattle.rsp_streams_out.proofs.Tabs.{first_written}
use Rattle.rsp_streams_out.proofs.text.push_row.Goals as goal

pub loop-cell-init : goal.loop-cell-init
loop-cell-init c =
    let first = cell_text c.in-Some.first.now in
    let others = map cell_text c.in-Some.others.now in
    record {
      text = rw (c.in_ok-push_cell.ensures.ok, c.in-Some.ensures.cases.0) (first_written c.args.out.now.items first others);
      begun = (first, c.in_ok-push_cell.ensures.ok);
    }
