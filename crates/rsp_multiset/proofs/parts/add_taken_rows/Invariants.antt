use Rattle.std.proofs.Common.{◌≡◌, ◌+ℤ◌, neg_ℤ, drop, List, Option}
use Rattle.rsp_multiset.specs.Rows.{row_eq}
use Rattle.rsp_multiset.specs.Weights.{weight, above}
use Rattle.rsp_multiset.proofs.Signs.{part}
use Rattle.rsp_multiset.proofs.parts.add_taken_rows.Given as goal

abbrev pub invariant-loop-index : goal.invariant-loop-index
invariant-loop-index g l =
    (q : List (Option g.row.V.Denot)) → weight (row_eq g.V.PartialEq.eq) l.bag q +ℤ weight (row_eq g.V.PartialEq.eq) (part (λ n. above (neg_ℤ n)) (drop l.index l.changes)) q ≡ weight (row_eq g.V.PartialEq.eq) l.initial.bag q +ℤ weight (row_eq g.V.PartialEq.eq) (part (λ n. above (neg_ℤ n)) l.changes) q
