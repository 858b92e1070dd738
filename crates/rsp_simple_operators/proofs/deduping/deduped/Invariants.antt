use Rattle.std.proofs.Common.{◌≡◌, ◌+ℤ◌, drop}
use Rattle.rsp_multiset.specs.Weights.{weight, AreChanges}
use Rattle.rsp_multiset.proofs.Distincts.{crossing}
use Rattle.rsp_simple_operators.proofs.deduping.deduped.Given as goal

abbrev pub invariant-loop-index : goal.invariant-loop-index
invariant-loop-index g l =
    AreChanges {E = g.row.V.Denot} g.V.PartialEq.eq l.kept
    × ((q : g.row.V.Denot) → weight g.V.PartialEq.eq l.kept q +ℤ weight g.V.PartialEq.eq (drop l.index l.change) q ≡ weight g.V.PartialEq.eq l.initial.kept q +ℤ weight g.V.PartialEq.eq l.change q)
    × ((q : g.row.V.Denot) → weight g.V.PartialEq.eq l.net q +ℤ crossing (weight g.V.PartialEq.eq l.kept q) (weight g.V.PartialEq.eq (drop l.index l.change) q)
    ≡ crossing (weight g.V.PartialEq.eq l.initial.kept q) (weight g.V.PartialEq.eq l.change q))
