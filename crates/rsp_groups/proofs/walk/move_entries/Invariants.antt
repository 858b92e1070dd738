use Rattle.std.proofs.Common.{◌≡◌, ℤ, List, drop, map, length}
use Rattle.std.specs.Prelude.{Option}
use Rattle.std.specs.List.{AllZip}
use Rattle.rsp_multiset.specs.Rows.{Cells}
use Rattle.rsp_terms.specs.declared.term.Term.{Term}
use Rattle.rsp_groups.specs.Answers.{group_row}
use Rattle.rsp_groups.specs.Standing.{GroupStands, GroupsStand, IsEntry, Steps}
use Rattle.rsp_groups.proofs.walk.move_entries.Given as goal

abbrev pub invariant-loop-entry : goal.invariant-loop-entry
invariant-loop-entry g l =
    (domain : g.row.D.Denot) (arguments : List (Cells Term → Option Term)) (rows : List (Cells Term × ℤ)) (before after : List (Cells Term))
    → length arguments ≡ length l.grouping.aggregates.items
    → AllZip (λ entry. IsEntry (g.D.Domain.knows domain) (g.D.Domain.shown domain) l.grouping.width l.grouping.keys.items arguments entry.key entry.values.items entry.by) l.entries rows
    → Steps l.out rows before after
    → GroupsStand g.D.Value.PartialEq.eq (g.D.Domain.knows domain) (g.D.Domain.shown domain) l.grouping.width l.grouping.keys.items
    (λ h. GroupStands g.F.Fold.stands g.F.Fold.aggregate arguments (map (λ a. g.F.Fold.aggregate a.fold) l.grouping.aggregates.items) h.rows h.folds.items) (λ h. h.given)
    (group_row l.grouping.width (map (λ a. a.variable) l.grouping.aggregates.items) arguments (map (λ a. g.F.Fold.aggregate a.fold) l.grouping.aggregates.items))
    l.initial.groups.entries before
    → (middle : List (Cells Term)) × (
    GroupsStand g.D.Value.PartialEq.eq (g.D.Domain.knows domain) (g.D.Domain.shown domain) l.grouping.width l.grouping.keys.items
    (λ h. GroupStands g.F.Fold.stands g.F.Fold.aggregate arguments (map (λ a. g.F.Fold.aggregate a.fold) l.grouping.aggregates.items) h.rows h.folds.items) (λ h. h.given)
    (group_row l.grouping.width (map (λ a. a.variable) l.grouping.aggregates.items) arguments (map (λ a. g.F.Fold.aggregate a.fold) l.grouping.aggregates.items))
    l.groups.entries middle
    × Steps l.out (drop l.entry-index rows) middle after)
