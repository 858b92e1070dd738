use Rattle.std.proofs.Common.{map, refl, sym, ap, subst}
use Rattle.std.specs.Prelude.{IsSome, IfSome}
use Rattle.rsp_expr.specs.Groups.{group_of}
use Rattle.rsp_multiset.specs.Shown.{shown_row}
use Rattle.rsp_groups.specs.Answers.{group_row, Shows}
use Rattle.rsp_groups.specs.Standing.{GroupStands, GroupsStand}
use Rattle.rsp_groups.proofs.Answering.{nothing-at}
use Rattle.rsp_groups.proofs.Keyed.{found-has}
use Rattle.rsp_groups.proofs.Giving.{group-same, stand-renewed, row-there}
use Rattle.rsp_groups.proofs.touching.row_at.Goals as goal

pub row_of_group-requires : goal.row_of_group-requires
row_of_group-requires g c = record { long = c.requires.long; known = c.requires.known }

pub returns-in-None-clause-law : goal.returns-in-None-clause-law
returns-in-None-clause-law g c = λ arguments aggregates rows stands.
    let width = c.args.grouping.now.width in
    let keys = c.args.grouping.now.keys.items in
    let knows = g.D.Domain.knows c.args.domain.now in
    let shown = g.D.Domain.shown c.args.domain.now in
    let row_of = group_row width (map (λ a. a.variable) c.args.grouping.now.aggregates.items) arguments aggregates in (
      subst (λ entries. GroupsStand g.D.Value.PartialEq.eq knows shown width keys
          (λ h. GroupStands g.F.Fold.stands g.F.Fold.aggregate arguments aggregates h.rows h.folds.items) (λ h. h.given) row_of entries rows)
          (ap (λ m. m.entries) (sym c.get_mut.follows.holds-at-none)) stands,
      (
        tt,
        nothing-at g.met.D.Value.Cell.identical knows shown (g.met.D.Domain.told_apart c.args.domain.now) width keys
            _ _ row_of c.args.groups.now.entries rows c.args.key.now _ c.requires stands (sym c.in-None.ensures.value),
      ),
    )

pub returns-in_ok-row-in-Some-clause-law : goal.returns-in_ok-row-in-Some-clause-law
returns-in_ok-row-in-Some-clause-law g c = λ arguments aggregates rows stands.
    let width = c.args.grouping.now.width in
    let keys = c.args.grouping.now.keys.items in
    let key = c.args.key.now in
    let knows0 = g.D.Domain.knows c.args.domain.now in
    let shown0 = g.D.Domain.shown c.args.domain.now in
    let knows1 = g.D.Domain.knows c.row_of_group.new.domain in
    let shown1 = g.D.Domain.shown c.row_of_group.new.domain in
    let row_of = group_row width (map (λ a. a.variable) c.args.grouping.now.aggregates.items) arguments aggregates in
    let group = c.in-Some.group.now in
    let group' = c.row_of_group.new.group in
    let after = c.get_mut.follows.lender group' in
    let written = c.get_mut.follows.holds group' in
    let update = (written.3 (subst IsSome c.in-Some.ensures.value refl)).0 in
    let there = sym c.in-Some.ensures.value in
    let shown_key = shown_row shown0 key in
    let shows = c.in_ok-row-in-Some.ensures.shows arguments aggregates (group_of width keys rows shown_key)
    (found-has (λ h. GroupStands g.F.Fold.stands g.F.Fold.aggregate arguments aggregates h.rows h.folds.items (group_of width keys rows shown_key)) _ group there (stands.held key))
    (found-has (λ h. IfSome h.given (λ kept. Shows width knows0 shown0 kept (row_of (group_of width keys rows shown_key) shown_key))) _ group there (stands.gave key)) in (
      stand-renewed g.met.D.Value.Cell.identical knows0 knows1 shown0 shown1 c.row_of_group.ensures.known (g.met.D.Domain.told_apart c.row_of_group.new.domain) width keys
          (λ h. GroupStands g.F.Fold.stands g.F.Fold.aggregate arguments aggregates h.rows h.folds.items) (λ h. h.given) row_of
          key c.requires group group' c.args.groups.now.entries after.entries rows update there stands
          (λ xs holds. group-same g.F.Fold.stands g.F.Fold.aggregate arguments aggregates group.rows group'.rows group.folds.items group'.folds.items xs
          c.row_of_group.ensures.count (ap (λ fs. fs.items) c.row_of_group.ensures.folds) holds)
          c.in_ok-row-in-Some.row c.in_ok-row-in-Some.ensures.given shows,
      (
        shows.is,
        row-there g.met.D.Value.Cell.identical knows0 knows1 shown0 shown1 c.row_of_group.ensures.known (g.met.D.Domain.told_apart c.row_of_group.new.domain) width keys
            (λ h. GroupStands g.F.Fold.stands g.F.Fold.aggregate arguments aggregates h.rows h.folds.items) (λ h. h.given) row_of
            key c.requires group group' c.args.groups.now.entries after.entries rows update there stands
            c.in_ok-row-in-Some.row shows,
      ),
    )
