use Rattle.std.proofs.Common.{◌≡◌, ◌++◌, List, map, drop}
use Rattle.std.specs.Prelude.{Option}
use Rattle.std.specs.List.{AllByRecursion}
use Rattle.std.specs.Map.{keys_of}
use Rattle.rsp_multiset.specs.Rows.{Cells}
use Rattle.rsp_multiset.specs.Shown.{shown_row}
use Rattle.rsp_terms.specs.declared.term.Term.{Term}
use Rattle.rsp_operators.specs.Laws.{IsShownAlike}
use Rattle.rsp_groups.specs.Answers.{group_row, rows_over, IsRow, MayTouch}
use Rattle.rsp_groups.specs.Standing.{GroupStands, GroupsStand}
use Rattle.rsp_groups.proofs.touching.touched_rows.Given as goal

abbrev pub invariant-loop-index : goal.invariant-loop-index
invariant-loop-index g l =
    ((v : g.row.D-Value.Denot) → g.D.Domain.knows l.initial.domain v → IsShownAlike (g.D.Domain.shown l.initial.domain) (g.D.Domain.knows l.domain) (g.D.Domain.shown l.domain) v)
    × AllByRecursion (MayTouch (g.D.Domain.knows l.initial.domain) l.grouping.width l.grouping.keys.items) (keys_of (drop l.index l.touched))
    × ((arguments : List (Cells Term → Option Term)) (aggregates : List (List (Option Term) → Option Term)) (rows : List (Cells Term))
    → GroupsStand g.D.Value.PartialEq.eq (g.D.Domain.knows l.initial.domain) (g.D.Domain.shown l.initial.domain) l.grouping.width l.grouping.keys.items
    (λ h. GroupStands g.F.Fold.stands g.F.Fold.aggregate arguments aggregates h.rows h.folds.items) (λ h. h.given)
    (group_row l.grouping.width (map (λ a. a.variable) l.grouping.aggregates.items) arguments aggregates) l.initial.groups.entries rows
    → GroupsStand g.D.Value.PartialEq.eq (g.D.Domain.knows l.domain) (g.D.Domain.shown l.domain) l.grouping.width l.grouping.keys.items
    (λ h. GroupStands g.F.Fold.stands g.F.Fold.aggregate arguments aggregates h.rows h.folds.items) (λ h. h.given)
    (group_row l.grouping.width (map (λ a. a.variable) l.grouping.aggregates.items) arguments aggregates) l.groups.entries rows
    × (AllByRecursion (IsRow l.grouping.width (g.D.Domain.knows l.domain)) l.rows.items
    × (map (shown_row (g.D.Domain.shown l.domain)) l.rows.items
    ++ rows_over (g.D.Domain.shown l.initial.domain) l.grouping.width l.grouping.keys.items
    (group_row l.grouping.width (map (λ a. a.variable) l.grouping.aggregates.items) arguments aggregates) rows (keys_of (drop l.index l.touched))
    ≡ rows_over (g.D.Domain.shown l.initial.domain) l.grouping.width l.grouping.keys.items
    (group_row l.grouping.width (map (λ a. a.variable) l.grouping.aggregates.items) arguments aggregates) rows (keys_of l.touched))))
