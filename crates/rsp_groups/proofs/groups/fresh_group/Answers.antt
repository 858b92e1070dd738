use Rattle.rsp_groups.proofs.Stepping.{group-fresh}
use Rattle.rsp_groups.proofs.groups.fresh_group.Goals as goal

pub returns-clause-stands : goal.returns-clause-stands
returns-clause-stands g c = λ arguments long.
    group-fresh g.F.Fold.stands g.F.Fold.aggregate arguments (λ a. g.F.Fold.aggregate a.fold) c.args.aggregates.now c.in_ok-folds.folds.items long
    c.in_ok-folds.ensures.nothing c.in_ok-folds.ensures.kinds
