use Rattle.std.proofs.Common.{◌≡◌}
use Rattle.std.specs.Vec.Iter.{into_iter_items}
use Rattle.rsp_multiset.specs.RowLists.{each_once}
use Rattle.rsp_algebra.specs.Solutions.{same_row}
use Rattle.rsp_values.proofs.Once.{once_onto}
use Rattle.rsp_eval.proofs.filtering.set_of_rows.Given as goal

abbrev pub invariant-loop-row : goal.invariant-loop-row
invariant-loop-row l = once_onto same_row l.set.keys (into_iter_items l.row-iterator) ≡ each_once same_row l.fn.rows.items
