use Rattle.std.proofs.Common.{ap, sym, ◌∙◌}
use Rattle.rsp_aggregates.specs.Folds.{folding_aggregate}
use Rattle.rsp_aggregates.proofs.folding.FoldingFold.fresh.Goals as goal

pub returns-in_ok-fresh-in-Plain-clause-aggregate : goal.returns-in_ok-fresh-in-Plain-clause-aggregate
returns-in_ok-fresh-in-Plain-clause-aggregate c =
    c.in_ok-fresh-in-Plain.ensures.aggregate ∙ ap folding_aggregate (sym c.in-Plain.is)

pub returns-in_ok-fresh-in-Distinct-clause-aggregate : goal.returns-in_ok-fresh-in-Distinct-clause-aggregate
returns-in_ok-fresh-in-Distinct-clause-aggregate c =
    c.in_ok-fresh-in-Distinct.ensures.aggregate ∙ ap folding_aggregate (sym c.in-Distinct.is)
