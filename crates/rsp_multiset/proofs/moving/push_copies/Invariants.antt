use Rattle.std.proofs.Common.{◌≡◌, ◌+ℤ◌, pos, List, Option}
use Rattle.rsp_multiset.specs.Rows.{row_eq}
use Rattle.rsp_multiset.specs.Weights.{only, times}
use Rattle.rsp_multiset.proofs.moving.push_copies.Given as goal

abbrev pub invariant-loop : goal.invariant-loop
invariant-loop g l =
    (q : List (Option g.row.V.Denot)) → times (row_eq g.V.PartialEq.eq) l.rows.items q
    ≡ times (row_eq g.V.PartialEq.eq) l.fn.rows.items q +ℤ only (row_eq g.V.PartialEq.eq q l.row) (pos l.counter)
