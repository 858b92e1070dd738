use Rattle.rsp_groups.proofs.Stepping.{group-long, group-may, group-after, on_ok_both}
use Rattle.rsp_groups.proofs.group.move_row.Goals as goal

pub move_values-requires-clause-long : goal.move_values-requires-clause-long
move_values-requires-clause-long g c =
    let may = c.requires in
    group-long g.F.Fold.stands g.F.Fold.aggregate c.args.out c.args.times may.0 may.1.0 c.args.group.now.rows c.in_ok-group.field-0 c.args.group.now.folds.items c.args.group.now.folds.items
    c.args.values.now may.1.1.0 may.1.1.1.0 may.1.1.1.1.0 may.1.1.1.1.1.0 may.1.1.1.1.1.1.0 c.in_ok-group.ensures.moved.0 c.in_ok-group.ensures.moved.1 may.1.1.1.1.1.1.1

pub move_values-requires-clause-may : goal.move_values-requires-clause-may
move_values-requires-clause-may g c =
    let may = c.requires in
    group-may g.F.Fold.stands g.F.Fold.aggregate c.args.out c.args.times may.0 may.1.0 c.args.group.now.rows c.in_ok-group.field-0 c.args.group.now.folds.items c.args.group.now.folds.items
    c.args.values.now may.1.1.0 may.1.1.1.0 may.1.1.1.1.0 may.1.1.1.1.1.0 may.1.1.1.1.1.1.0 c.in_ok-group.ensures.moved.0 c.in_ok-group.ensures.moved.1 may.1.1.1.1.1.1.1

pub returns-clause-law : goal.returns-clause-law
returns-clause-law g c =
    on_ok_both c.move_values.result
    (λ same law arguments aggregates row before after is moved group.
    group-after g.F.Fold.stands g.F.Fold.aggregate c.args.out c.args.times arguments aggregates c.args.group.now.rows c.in_ok-group.field-0 c.args.group.now.folds.items c.move_values.new.folds.items
    c.args.values.now row before after is moved c.in_ok-group.ensures.moved.0 c.in_ok-group.ensures.moved.1 group same law)
    c.move_values.ensures.aggregates c.move_values.ensures.law
