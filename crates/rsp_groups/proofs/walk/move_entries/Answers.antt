use Rattle.std.proofs.Common.{map}
use Rattle.rsp_groups.specs.Answers.{group_row}
use Rattle.rsp_groups.specs.Standing.{GroupStands, GroupsStand}
use Rattle.rsp_groups.proofs.Walking.{step-may, step-next, step-end}
use Rattle.rsp_groups.proofs.walk.move_entries.Goals as goal

pub move_entry-requires : goal.move_entry-requires
move_entry-requires g c =
    let may = c.requires in
    let step = may.1.1.1 in
    let so_far = c.loop-entry.invariant may.0 may.1.0 step.rows step.before step.after may.1.1.0 step.are step.steps step.stands in (
      may.0,
      (
        may.1.0,
        (
          may.1.1.0,
          step-may _ c.args.out c.args.entries.now step.rows c.loop-entry.entry-index c.entry-item.result c.loop-entry-test.true c.entry-item.is step.are _ so_far.0 step.after so_far.1.0 so_far.1.1,
        ),
      ),
    )

pub loop-entry-preserved : goal.loop-entry-preserved
loop-entry-preserved g c = λ domain arguments rows before after long are steps stands.
    let so_far = c.loop-entry.invariant domain arguments rows before after long are steps stands in
    step-next _ c.args.out c.args.entries.now rows c.loop-entry.entry-index c.entry-item.result c.loop-entry-test.true c.entry-item.is are _ _ so_far.0 after so_far.1.0 so_far.1.1
    (λ row prior next entry moved held. c.in_ok-move_entry.ensures domain arguments row prior next long entry moved held)

pub returns : goal.returns
returns g c = λ domain arguments rows before after long are steps stands.
    let so_far = c.loop-entry.invariant domain arguments rows before after long are steps stands in
    step-end _ c.args.out c.args.entries.now rows c.loop-entry.entry-index c.loop-entry-test.false are
    (GroupsStand g.D.Value.PartialEq.eq (g.D.Domain.knows domain) (g.D.Domain.shown domain) c.args.grouping.now.width c.args.grouping.now.keys.items
    (λ h. GroupStands g.F.Fold.stands g.F.Fold.aggregate arguments (map (λ a. g.F.Fold.aggregate a.fold) c.args.grouping.now.aggregates.items) h.rows h.folds.items) (λ h. h.given)
    (group_row c.args.grouping.now.width (map (λ a. a.variable) c.args.grouping.now.aggregates.items) arguments (map (λ a. g.F.Fold.aggregate a.fold) c.args.grouping.now.aggregates.items))
    c.loop-entry.groups.entries) so_far.0 after so_far.1.0 so_far.1.1
