use Rattle.std.proofs.Common.{◌≡◌, ◌++◌, drop}
use Rattle.rsp_multiset.specs.Shown.{shown_row, IsKnown}
use Rattle.rsp_operators.specs.Laws.{IsShownAlike}
use Rattle.rsp_plan.proofs.leaves.kept_row.Given as goal

abbrev pub invariant-loop-cell : goal.invariant-loop-cell
invariant-loop-cell g l =
    ((v : g.row.D-Value.Denot) → g.D.Domain.knows l.initial.domain v → IsShownAlike (g.D.Domain.shown l.initial.domain) (g.D.Domain.knows l.domain) (g.D.Domain.shown l.domain) v)
    × IsKnown (g.D.Domain.knows l.domain) l.kept.items
    × (shown_row (g.D.Domain.shown l.domain) l.kept.items ++ drop l.cell-index l.cells ≡ l.cells)
