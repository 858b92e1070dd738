use Rattle.std.proofs.Common.{map}
use Rattle.rsp_groups.specs.Answers.{group_row}
use Rattle.rsp_groups.proofs.Stepping.{on_ok}
use Rattle.rsp_groups.proofs.Turning.{group-alike, groups-alike, group_row-same}
use Rattle.rsp_groups.proofs.walk.move_all.Goals as goal

pub move_entries-requires : goal.move_entries-requires
move_entries-requires g c =
    let may = c.requires in
    let turn = may.1.1.1 in (
      may.0,
      (
        may.1.0,
        (
          may.1.1.0,
          record {
            rows = turn.rows;
            before = turn.before;
            after = turn.turn.come;
            are = turn.are;
            steps = turn.turn.comes;
            stands = turn.stands;
          },
        ),
      ),
    )

pub move_entries-requires-2 : goal.move_entries-requires-2
move_entries-requires-2 g c =
    let may = c.requires in
    let turn = may.1.1.1 in
    let width = c.args.grouping.now.width in
    let aggregates = c.args.grouping.now.aggregates.items in
    let come = c.in_ok-move_entries.ensures may.0 may.1.0 turn.rows turn.before turn.turn.come may.1.1.0 turn.are turn.turn.comes turn.stands in (
      may.0,
      (
        may.1.0,
        (
          may.1.1.0,
          record {
            rows = turn.rows;
            before = turn.turn.going;
            after = turn.after;
            are = turn.are;
            steps = turn.turn.goes;
            stands = groups-alike (g.D.Domain.knows may.0) (g.D.Domain.shown may.0) width c.args.grouping.now.keys.items _ (λ h. h.given)
                (group_row width (map (λ a. a.variable) aggregates) may.1.0 (map (λ a. g.F.Fold.aggregate a.fold) aggregates))
                (λ h rows others same. group-alike g.F.Fold.stands g.met.F.Fold.stands_alike g.F.Fold.aggregate may.1.0
                (map (λ a. g.F.Fold.aggregate a.fold) aggregates) h.rows h.folds.items rows others same)
                (λ rows others key same. group_row-same (λ a. g.F.Fold.aggregate a.fold) (λ a. g.met.F.Fold.aggregates_alike a.fold) width (map (λ a. a.variable) aggregates) aggregates
                may.1.0 rows others key same)
                c.move_entries.new.groups.entries turn.turn.come turn.turn.going turn.turn.same come;
          },
        ),
      ),
    )

pub returns : goal.returns
returns g c =
    on_ok c.move_entries-2.result
    (λ law domain arguments rows before after long are turn stands.
    let width = c.args.grouping.now.width in
    let aggregates = c.args.grouping.now.aggregates.items in
    law domain arguments rows turn.going after long are turn.goes
    (groups-alike (g.D.Domain.knows domain) (g.D.Domain.shown domain) width c.args.grouping.now.keys.items _ (λ h. h.given)
    (group_row width (map (λ a. a.variable) aggregates) arguments (map (λ a. g.F.Fold.aggregate a.fold) aggregates))
    (λ h xs others same. group-alike g.F.Fold.stands g.met.F.Fold.stands_alike g.F.Fold.aggregate arguments
    (map (λ a. g.F.Fold.aggregate a.fold) aggregates) h.rows h.folds.items xs others same)
    (λ xs others key same. group_row-same (λ a. g.F.Fold.aggregate a.fold) (λ a. g.met.F.Fold.aggregates_alike a.fold) width (map (λ a. a.variable) aggregates) aggregates
    arguments xs others key same)
    c.move_entries.new.groups.entries turn.come turn.going turn.same
    (c.in_ok-move_entries.ensures domain arguments rows before turn.come long are turn.comes stands)))
    c.move_entries-2.ensures
