use Rattle.std.proofs.Common.{ap, sym, ◌∙◌}
use Rattle.rsp_aggregates.specs.Folds.{folding_aggregate}
use Rattle.rsp_aggregates.proofs.folding.FoldingFold.take.Goals as goal

pub returns-in-Plain-clause-aggregate : goal.returns-in-Plain-clause-aggregate
returns-in-Plain-clause-aggregate c = c.take.ensures.aggregate ∙ ap folding_aggregate (sym c.in-Plain.is)

pub returns-in-Distinct-clause-aggregate : goal.returns-in-Distinct-clause-aggregate
returns-in-Distinct-clause-aggregate c = c.take-in-Distinct.ensures.aggregate ∙ ap folding_aggregate (sym c.in-Distinct.is)
