use Rattle.std.proofs.Common.{◌≡◌, ◌++◌, List, ℕ, drop}
use Rattle.rsp_streams_out.specs.Reports.{rows_text}
use Rattle.rsp_streams_out.proofs.text.push_rows.Given as goal

abbrev pub invariant-loop-row : goal.invariant-loop-row
invariant-loop-row l = record {
  text : l.out.items ++ rows_text (drop l.row-index l.rows) ≡ l.fn.out.items ++ rows_text l.fn.rows;
  begun : (rest : List ℕ) × (l.out.items ≡ l.fn.out.items ++ rest);
}
