use Rattle.std.proofs.Common.{◌∙◌, ◌++◌, ◌+◌, ap, map, drop}
use Rattle.rsp_groups.specs.Moves.{results_over}
use Rattle.rsp_groups.proofs.Stepping.{results-next}
use Rattle.rsp_groups.proofs.folds.results_of.Goals as goal

pub loop-fold-preserved : goal.loop-fold-preserved
loop-fold-preserved g c = λ lists zip.
    ap (λ items. items ++ results_over (map g.F.Fold.aggregate (drop (c.loop-fold.fold-index + 1) c.args.folds.now)) (drop (c.loop-fold.fold-index + 1) lists)) c.in_ok-push.ensures.items
    ∙ results-next g.F.Fold.stands g.F.Fold.aggregate c.args.folds.now lists c.loop-fold.fold-index c.fold-item.result c.in_ok-result.field-0 c.loop-fold.results.items _
    c.loop-fold-test.true c.fold-item.is c.in_ok-result.ensures zip (c.loop-fold.invariant lists zip)
