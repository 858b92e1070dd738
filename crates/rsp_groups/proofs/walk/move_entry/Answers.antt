use Rattle.std.proofs.Common.{◌≡◌, None, map, sym, subst, ap, ◌∙◌, ◌||◌}
use Rattle.std.specs.Prelude.{nat_lt}
use Rattle.rsp_expr.specs.Groups.{group_of}
use Rattle.rsp_multiset.specs.Shown.{shown_row}
use Rattle.rsp_groups.specs.Answers.{is_empty_key, group_row}
use Rattle.rsp_groups.specs.Moves.{Moved, part}
use Rattle.rsp_groups.specs.Standing.{GroupStands, GroupsStand}
use Rattle.rsp_groups.proofs.Keyed.{group_of-moved}
use Rattle.rsp_groups.proofs.Stepping.{on_ok}
use Rattle.rsp_groups.proofs.Walking.{none-moved}
use Rattle.rsp_groups.proofs.Written.{stand-moved, written-back, then-holds, then-some}
use Rattle.rsp_groups.proofs.walk.move_entry.Goals as goal

pub returns-then-times-eq0 : goal.returns-then-times-eq0
returns-then-times-eq0 g c = λ domain arguments row before after long entry moved stands.
    let none = sym (c.part_of-times.ensures ∙ ap (part c.args.out) entry.count) ∙ c.if-times-eq0.true in
    subst (GroupsStand g.D.Value.PartialEq.eq (g.D.Domain.knows domain) (g.D.Domain.shown domain) c.args.grouping.now.width c.args.grouping.now.keys.items
    (λ h. GroupStands g.F.Fold.stands g.F.Fold.aggregate arguments (map (λ a. g.F.Fold.aggregate a.fold) c.args.grouping.now.aggregates.items) h.rows h.folds.items) (λ h. h.given)
    (group_row c.args.grouping.now.width (map (λ a. a.variable) c.args.grouping.now.aggregates.items) arguments (map (λ a. g.F.Fold.aggregate a.fold) c.args.grouping.now.aggregates.items))
    c.args.groups.now.entries)
    (none-moved c.args.out (part c.args.out row.1) row.0 before after none moved) stands

pub move_row-requires : goal.move_row-requires
move_row-requires g c =
    let may = c.requires in
    let domain = may.0 in
    let arguments = may.1.0 in
    let one = may.1.1.1 in
    let width = c.args.grouping.now.width in
    let keys = c.args.grouping.now.keys.items in
    let variables = map (λ a. a.variable) c.args.grouping.now.aggregates.items in
    let key = shown_row (g.D.Domain.shown domain) c.args.entry.now.key in
    let times = c.part_of-times.ensures ∙ ap (part c.args.out) one.entry.count in (
      arguments,
      (
        map (λ a. g.F.Fold.aggregate a.fold) c.args.grouping.now.aggregates.items,
        (
          one.row.0,
          (
            group_of width keys one.before key,
            (
              group_of width keys one.after key,
              (
                c.as_slice.ensures.value ∙ one.entry.values,
                (
                  group_of-moved width keys key c.args.out c.part_of-times.result one.row.0 one.before one.after one.entry.key
                      (subst (λ n. Moved c.args.out n one.row.0 one.before one.after) (sym times) one.moved),
                  c.in_ok-group.ensures.group domain width keys variables arguments one.before one.entry.known may.1.1.0 one.stands,
                ),
              ),
            ),
          ),
        ),
      ),
    )

pub returns : goal.returns
returns g c =
    on_ok c.put_group.result
    (λ back domain arguments row before after long entry moved stands.
    let width = c.args.grouping.now.width in
    let keys = c.args.grouping.now.keys.items in
    let variables = map (λ a. a.variable) c.args.grouping.now.aggregates.items in
    let key = shown_row (g.D.Domain.shown domain) c.args.entry.now.key in
    let has = is_empty_key keys || nat_lt 0 c.move_row.new.group.rows in
    let times = c.part_of-times.ensures ∙ ap (part c.args.out) entry.count in
    let moves = subst (λ n. Moved c.args.out n row.0 before after) (sym times) moved in
    let holds = c.in_ok-move_row.ensures.law arguments (map (λ a. g.F.Fold.aggregate a.fold) c.args.grouping.now.aggregates.items) row.0
    (group_of width keys before key) (group_of width keys after key) (c.as_slice.ensures.value ∙ entry.values)
    (group_of-moved width keys key c.args.out c.part_of-times.result row.0 before after entry.key moves)
    (c.in_ok-group.ensures.group domain width keys variables arguments before entry.known long stands) in
    stand-moved g.met.D.Value.Cell.identical (g.D.Domain.knows domain) (g.D.Domain.shown domain) width keys _ _ _ (g.met.D.Domain.told_apart domain)
    c.args.entry.now.key _ c.args.groups.now.entries c.put_group.new.groups.entries c.args.out c.part_of-times.result row.0 before after entry.key moves
    (written-back g.D.Value.PartialEq.eq c.args.entry.now.key has c.move_row.new.group
    c.args.groups.now.entries c.take_group.new.groups.entries c.put_group.new.groups.entries c.take_group.ensures.others back)
    entry.known
    (then-holds (λ h. GroupStands g.F.Fold.stands g.F.Fold.aggregate arguments
    (map (λ a. g.F.Fold.aggregate a.fold) c.args.grouping.now.aggregates.items) h.rows h.folds.items (group_of width keys after key))
    has c.move_row.new.group holds)
    (then-holds (λ h. h.given ≡ None) has c.move_row.new.group c.move_row.ensures.given)
    (then-some has c.move_row.new.group ∙ ap (λ n. is_empty_key keys || nat_lt 0 n) holds.count)
    stands)
    c.put_group.ensures
