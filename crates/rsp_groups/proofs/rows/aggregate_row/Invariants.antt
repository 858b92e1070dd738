use Rattle.std.proofs.Common.{◌≡◌, map}
use Rattle.std.specs.Iterator.Adapters.{zip_first, zip_second}
use Rattle.std.specs.Slice.Iter.{iter_rest}
use Rattle.rsp_multiset.specs.Shown.{shown_row}
use Rattle.rsp_operators.specs.Laws.{IsShownAlike}
use Rattle.rsp_groups.specs.Answers.{with_cells, IsRow}
use Rattle.rsp_groups.proofs.rows.aggregate_row.Given as goal

abbrev pub invariant-loop-aggregate : goal.invariant-loop-aggregate
invariant-loop-aggregate g l =
    ((v : g.row.D-Value.Denot) → g.D.Domain.knows l.initial.domain v → IsShownAlike (g.D.Domain.shown l.initial.domain) (g.D.Domain.knows l.domain) (g.D.Domain.shown l.domain) v)
    × IsRow l.width (g.D.Domain.knows l.domain) l.row
    × (with_cells l.width (map (λ a. a.variable) (iter_rest (zip_first l.aggregate-iterator))) (iter_rest (zip_second l.aggregate-iterator)) (shown_row (g.D.Domain.shown l.domain) l.row)
    ≡ with_cells l.width (map (λ a. a.variable) l.aggregates) l.results (shown_row (g.D.Domain.shown l.initial.domain) l.key))
