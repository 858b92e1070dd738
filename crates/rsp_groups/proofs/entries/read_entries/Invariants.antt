use Rattle.std.proofs.Common.{◌≡◌, ◌++◌, ℤ, map, drop}
use Rattle.std.specs.List.{AllByRecursion}
use Rattle.rsp_multiset.specs.Rows.{Cells}
use Rattle.rsp_multiset.specs.Shown.{shown_row, IsKnown}
use Rattle.rsp_multiset.specs.Variables.{projection}
use Rattle.rsp_operators.specs.Laws.{IsShownAlike}
use Rattle.rsp_groups.proofs.entries.read_entries.Given as goal

abbrev pub invariant-loop-index : goal.invariant-loop-index
invariant-loop-index g l =
    ((v : g.row.D-Value.Denot) → g.D.Domain.knows l.initial.domain v → IsShownAlike (g.D.Domain.shown l.initial.domain) (g.D.Domain.knows l.domain) (g.D.Domain.shown l.domain) v)
    × AllByRecursion (λ (e : Cells g.row.D-Value.Denot × ℤ). IsKnown (g.D.Domain.knows l.initial.domain) e.0) (drop l.index l.change)
    × (map (λ e. e.key) l.entries.items ++ map (λ e. projection l.grouping.width l.grouping.keys.items e.0) (drop l.index l.change)
    ≡ map (λ e. projection l.grouping.width l.grouping.keys.items e.0) l.change)
    × (map (λ e. e.values.items) l.entries.items ++ map (λ e. map (λ a. g.C.Computed.of a.argument (shown_row (g.D.Domain.shown l.initial.domain) e.0)) l.grouping.aggregates.items) (drop l.index l.change)
    ≡ map (λ e. map (λ a. g.C.Computed.of a.argument (shown_row (g.D.Domain.shown l.initial.domain) e.0)) l.grouping.aggregates.items) l.change)
    × (map (λ e. e.by) l.entries.items ++ map (λ e. e.1) (drop l.index l.change) ≡ map (λ e. e.1) l.change)
