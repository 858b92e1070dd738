use Rattle.std.proofs.Common.{◌≡◌, ◌+ℤ◌, List}
use Rattle.std.specs.Prelude.{Option}
use Rattle.std.specs.Vec.Iter.{into_iter_items}
use Rattle.rsp_multiset.specs.Rows.{row_eq}
use Rattle.rsp_multiset.specs.Weights.{times, weight}
use Rattle.rsp_groups.proofs.rows.count_rows.Given as goal

abbrev pub invariant-loop-row : goal.invariant-loop-row
invariant-loop-row g l =
    (q : List (Option g.row.V.Denot)) → weight (row_eq g.V.PartialEq.eq) l.net q +ℤ times (row_eq g.V.PartialEq.eq) (into_iter_items l.row-iterator) q
    ≡ weight (row_eq g.V.PartialEq.eq) l.initial.net q +ℤ times (row_eq g.V.PartialEq.eq) l.fn.rows.items q
