use Rattle.std.proofs.Common.{◌≡◌, ◌+ℤ◌}
use Rattle.std.specs.Vec.Iter.{into_iter_items}
use Rattle.rsp_multiset.specs.Rows.{Cells}
use Rattle.rsp_multiset.specs.Weights.{weight, times}
use Rattle.rsp_terms.specs.declared.term.Term.{Term}
use Rattle.rsp_algebra.specs.Solutions.{same_row}
use Rattle.rsp_eval.proofs.changing.take_rows.Given as goal

abbrev pub invariant-loop-row : goal.invariant-loop-row
invariant-loop-row l =
    (q : Cells Term)
    → weight same_row l.net q +ℤ times same_row l.fn.rows.items q
    ≡ weight same_row l.initial.net q +ℤ times same_row (into_iter_items l.row-iterator) q
