use Rattle.std.proofs.Common.{◌≡◌, ◌++◌, List, ℕ, map, drop}
use Rattle.rsp_streams_out.specs.Rows.{cell_text, row_text}
use Rattle.rsp_streams_out.proofs.Tabs.{after_tabs}
use Rattle.rsp_streams_out.proofs.text.push_row.Given as goal

abbrev pub invariant-loop-cell : goal.invariant-loop-cell
invariant-loop-cell l = record {
  text : l.out.items ++ after_tabs (map cell_text (drop l.cell-index l.others)) ≡ l.fn.out.items ++ row_text l.fn.row;
  begun : (rest : List ℕ) × (l.out.items ≡ l.fn.out.items ++ rest);
}
