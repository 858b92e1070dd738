use Rattle.std.proofs.Common.{◌≡◌, ◌+ℤ◌, ◌≤ℤ◌, ◌<ℤ◌, pos, drop, List, Option}
use Rattle.rsp_multiset.specs.Rows.{row_eq}
use Rattle.rsp_multiset.specs.Weights.{weight, below}
use Rattle.rsp_multiset.proofs.Signs.{part}
use Rattle.rsp_multiset.proofs.parts.take_rows.Given as goal

abbrev pub invariant-loop-index : goal.invariant-loop-index
invariant-loop-index g l =
    ((q : List (Option g.row.V.Denot)) → weight (row_eq g.V.PartialEq.eq) l.bag q +ℤ weight (row_eq g.V.PartialEq.eq) (part below (drop l.index l.changes)) q ≡ weight (row_eq g.V.PartialEq.eq) l.initial.bag q +ℤ weight (row_eq g.V.PartialEq.eq) (part below l.changes) q)
    × ((q : List (Option g.row.V.Denot)) → weight (row_eq g.V.PartialEq.eq) (part below (drop l.index l.changes)) q <ℤ pos 0 → pos 0 ≤ℤ (weight (row_eq g.V.PartialEq.eq) l.bag q +ℤ weight (row_eq g.V.PartialEq.eq) (part below (drop l.index l.changes)) q))
