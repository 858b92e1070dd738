use Rattle.std.proofs.Common.{◌≡◌, ◌+ℤ◌, List, Option, drop}
use Rattle.rsp_multiset.specs.Rows.{row_eq}
use Rattle.rsp_multiset.specs.Shown.{weight_shown}
use Rattle.rsp_multiset.specs.Variables.{projection}
use Rattle.rsp_multiset.specs.Weights.{weight}
use Rattle.rsp_simple_operators.proofs.projecting.projected.Given as goal

abbrev pub invariant-loop-index : goal.invariant-loop-index
invariant-loop-index g l =
    (q : List (Option g.row.V.Denot)) → weight (row_eq g.V.PartialEq.eq) l.net q +ℤ weight_shown (row_eq g.V.PartialEq.eq) (projection l.width l.variables) (drop l.index l.change) q
    ≡ weight_shown (row_eq g.V.PartialEq.eq) (projection l.width l.variables) l.change q
