use Rattle.std.proofs.Common.{◌≡◌, ◌++◌}
use Rattle.rsp_multiset.specs.RowLists.{each_once}
use Rattle.rsp_algebra.specs.Solutions.{same_row}
use Rattle.rsp_eval.proofs.filtering.distinct_rows.Given as goal

abbrev pub invariant-loop-row : goal.invariant-loop-row
invariant-loop-row l = l.kept.items ++ l.row-iterator ≡ each_once same_row l.fn.rows.items
