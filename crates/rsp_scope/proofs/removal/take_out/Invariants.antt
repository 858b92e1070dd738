use Rattle.std.proofs.Common.{◌≡◌, ◌&&◌, not, drop}
use Rattle.std.specs.List.{list_any, IsDistinct}
use Rattle.rsp_scope.proofs.removal.take_out.Given as goal

abbrev pub invariant-loop-value : goal.invariant-loop-value
invariant-loop-value g l = ((q : g.row.V.Denot)
    → (list_any (g.V.PartialEq.eq q) l.values.keys && not (list_any (g.V.PartialEq.eq q) (drop l.value-index l.gone)))
    ≡ (list_any (g.V.PartialEq.eq q) l.initial.values.keys && not (list_any (g.V.PartialEq.eq q) l.gone)))
    × IsDistinct {K = g.row.V.Denot} g.V.PartialEq.eq l.values.keys
