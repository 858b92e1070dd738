use Rattle.std.proofs.Common.{◌≡◌, ◌+ℤ◌, drop}
use Rattle.rsp_multiset.specs.Rows.{Cells}
use Rattle.rsp_multiset.specs.Weights.{weight, times}
use Rattle.rsp_terms.specs.declared.term.Term.{Term}
use Rattle.rsp_algebra.specs.Solutions.{same_row}
use Rattle.rsp_eval.proofs.changing.add_rows.Given as goal

abbrev pub invariant-loop-row : goal.invariant-loop-row
invariant-loop-row l =
    (q : Cells Term)
    → weight same_row l.net q +ℤ times same_row (drop l.row-index l.rows) q
    ≡ weight same_row l.initial.net q +ℤ times same_row l.rows q
