use Rattle.std.proofs.Common.{◌≡◌, ◌+ℤ◌, List, Option}
use Rattle.rsp_multiset.specs.Rows.{row_eq}
use Rattle.rsp_multiset.specs.Weights.{weight, times, above}
use Rattle.rsp_multiset.proofs.Signs.{part}
use Rattle.rsp_multiset.proofs.moving.incoming_rows.Given as goal

abbrev pub invariant-loop-row : goal.invariant-loop-row
invariant-loop-row g l =
    (q : List (Option g.row.V.Denot)) → times (row_eq g.V.PartialEq.eq) l.rows.items q +ℤ weight (row_eq g.V.PartialEq.eq) (part above l.row-iterator) q
    ≡ weight (row_eq g.V.PartialEq.eq) (part above l.fn.changes) q
