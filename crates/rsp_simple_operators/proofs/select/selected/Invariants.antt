use Rattle.std.proofs.Common.{◌≡◌, ◌+ℤ◌, ℤ, List, Option, drop}
use Rattle.std.specs.List.{AllByRecursion}
use Rattle.rsp_multiset.specs.Rows.{row_eq}
use Rattle.rsp_multiset.specs.Shown.{shown_row, IsKnown}
use Rattle.rsp_multiset.specs.Weights.{only, weight}
use Rattle.rsp_simple_operators.proofs.select.selected.Given as goal

abbrev pub invariant-loop-index : goal.invariant-loop-index
invariant-loop-index g l =
    ((q : List (Option g.row.D-Value.Denot)) → weight (row_eq g.D.Value.PartialEq.eq) l.net q +ℤ only (g.C.Condition.test l.condition (shown_row (g.D.Domain.shown l.domain) q)) (weight (row_eq g.D.Value.PartialEq.eq) (drop l.index l.change) q)
    ≡ only (g.C.Condition.test l.condition (shown_row (g.D.Domain.shown l.domain) q)) (weight (row_eq g.D.Value.PartialEq.eq) l.change q))
    × AllByRecursion (λ (e : List (Option g.row.D-Value.Denot) × ℤ). IsKnown (g.D.Domain.knows l.domain) e.0) (drop l.index l.change)
