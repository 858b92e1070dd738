use Rattle.std.proofs.Common.{ap, sym, ◌∙◌}
use Rattle.rsp_aggregates.specs.Folds.{plain_aggregate}
use Rattle.rsp_aggregates.proofs.plain.PlainFoldFold.fresh.Goals as goal

pub returns-in_ok-fresh-in-Counting-clause-aggregate : goal.returns-in_ok-fresh-in-Counting-clause-aggregate
returns-in_ok-fresh-in-Counting-clause-aggregate c =
    c.in_ok-fresh-in-Counting.ensures.aggregate ∙ ap plain_aggregate (sym c.in-Counting.is)

pub returns-in_ok-fresh-in-Summing-clause-aggregate : goal.returns-in_ok-fresh-in-Summing-clause-aggregate
returns-in_ok-fresh-in-Summing-clause-aggregate c =
    c.in_ok-fresh-in-Summing.ensures.aggregate ∙ ap plain_aggregate (sym c.in-Summing.is)

pub returns-in_ok-fresh-in-Extreme-clause-aggregate : goal.returns-in_ok-fresh-in-Extreme-clause-aggregate
returns-in_ok-fresh-in-Extreme-clause-aggregate c =
    c.in_ok-fresh-in-Extreme.ensures.aggregate ∙ ap plain_aggregate (sym c.in-Extreme.is)
