use Rattle.std.proofs.Common.{◌≡◌, ◌+ℤ◌, pos, List, Option}
use Rattle.rsp_multiset.specs.Rows.{row_eq}
use Rattle.rsp_multiset.specs.Variables.{cells_at}
use Rattle.rsp_multiset.specs.Weights.{only, weight, total}
use Rattle.rsp_multiset.proofs.moving.changes_at.Given as goal

abbrev pub invariant-loop-row : goal.invariant-loop-row
invariant-loop-row g l =
    (q : List (Option g.row.V.Denot)) → weight (row_eq g.V.PartialEq.eq) l.cut q
    +ℤ total (λ row. only (row_eq g.V.PartialEq.eq q (cells_at l.variables row)) (pos 1)) l.row-iterator
    ≡ total (λ row. only (row_eq g.V.PartialEq.eq q (cells_at l.variables row)) (pos 1)) l.fn.changes
