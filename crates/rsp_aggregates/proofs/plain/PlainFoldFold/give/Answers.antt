use Rattle.std.proofs.Common.{ap, sym, ◌∙◌}
use Rattle.rsp_aggregates.specs.Folds.{plain_aggregate}
use Rattle.rsp_aggregates.proofs.plain.PlainFoldFold.give.Goals as goal

pub returns-in-Counting-clause-aggregate : goal.returns-in-Counting-clause-aggregate
returns-in-Counting-clause-aggregate c = c.give.ensures.aggregate ∙ ap plain_aggregate (sym c.in-Counting.is)

pub returns-in-Summing-clause-aggregate : goal.returns-in-Summing-clause-aggregate
returns-in-Summing-clause-aggregate c = c.give-in-Summing.ensures.aggregate ∙ ap plain_aggregate (sym c.in-Summing.is)

pub returns-in-Extreme-clause-aggregate : goal.returns-in-Extreme-clause-aggregate
returns-in-Extreme-clause-aggregate c = c.give-in-Extreme.ensures.aggregate ∙ ap plain_aggregate (sym c.in-Extreme.is)
