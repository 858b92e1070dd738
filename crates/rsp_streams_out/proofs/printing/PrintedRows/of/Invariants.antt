use Rattle.std.proofs.Common.{◌≡◌, ◌++◌}
use Rattle.rsp_streams_out.specs.Reports.{rows_text}
use Rattle.rsp_streams_out.proofs.printing.PrintedRows.of.Given as goal

abbrev pub invariant-loop-one : goal.invariant-loop-one
invariant-loop-one l = record {
  rows : l.rows ++ l.one-iterator.rest.items ≡ l.fn.keyed.items;
  lines : l.lines.items ++ rows_text l.one-iterator.rest.items ≡ rows_text l.fn.keyed.items;
}
