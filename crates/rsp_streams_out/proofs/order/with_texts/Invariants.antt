use Rattle.std.proofs.Common.{◌≡◌, ◌++◌}
use Rattle.rsp_streams_out.proofs.order.with_texts.Given as goal

abbrev pub invariant-loop-row : goal.invariant-loop-row
invariant-loop-row l = l.keyed.items ++ l.row-iterator.rest.items ≡ l.fn.rows
