use Rattle.std.proofs.Common.{◌≡◌, ◌++◌, map, drop}
use Rattle.rsp_multiset.specs.Shown.{shown_row}
use Rattle.rsp_operators.specs.Laws.{IsShownAlike}
use Rattle.rsp_groups.proofs.entries.argument_terms.Given as goal

abbrev pub invariant-loop-aggregate : goal.invariant-loop-aggregate
invariant-loop-aggregate g l =
    ((v : g.row.D-Value.Denot) → g.D.Domain.knows l.initial.domain v → IsShownAlike (g.D.Domain.shown l.initial.domain) (g.D.Domain.knows l.domain) (g.D.Domain.shown l.domain) v)
    × (l.terms.items ++ map (λ a. g.C.Computed.of a.argument (shown_row (g.D.Domain.shown l.initial.domain) l.row)) (drop l.aggregate-index l.aggregates)
    ≡ map (λ a. g.C.Computed.of a.argument (shown_row (g.D.Domain.shown l.initial.domain) l.row)) l.aggregates)
