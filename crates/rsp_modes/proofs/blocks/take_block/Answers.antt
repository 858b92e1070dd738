use Rattle.rsp_modes.specs.declared.refusals.Place.TheVariants as place
use Rattle.rsp_modes.proofs.Reporting.{refused_says, taken, taken_says, taken_stands, taken_stops}
use Rattle.rsp_modes.proofs.Spending.{taken_costs}
use Rattle.rsp_modes.proofs.blocks.take_block.Goals as goal

pub returns-in-Err-say_reports-clause-says : goal.returns-in-Err-say_reports-clause-says
returns-in-Err-say_reports-clause-says g c world stands =
    let is = taken _ _ c.args.block.content (place.Block c.args.block.number) world _ c.in-Ok.ensures stands in
    taken_stops world (place.Block c.args.block.number) c.args.block.content _ is _ _ _ _ _
    (c.in-Err-say_reports.ensures.says is.after is.left is.stands)

pub returns-in-Ok-say_reports-clause-says : goal.returns-in-Ok-say_reports-clause-says
returns-in-Ok-say_reports-clause-says g c world stands =
    let is = taken _ _ c.args.block.content (place.Block c.args.block.number) world _ c.in-Ok.ensures stands in
    taken_says world (place.Block c.args.block.number) c.args.block.content _ is _ _ _ _
    (c.in-Ok-say_reports.ensures.says is.after is.left is.stands)

pub returns-in-Ok-say_reports-clause-stands : goal.returns-in-Ok-say_reports-clause-stands
returns-in-Ok-say_reports-clause-stands g c world stands =
    let is = taken _ _ c.args.block.content (place.Block c.args.block.number) world _ c.in-Ok.ensures stands in
    taken_stands world (place.Block c.args.block.number) c.args.block.content _ _ is
    (c.in-Ok-say_reports.ensures.stands is.after is.left is.stands)

pub returns-in-Err-clause-says : goal.returns-in-Err-clause-says
returns-in-Err-clause-says g c world stands =
    refused_says _ _ c.args.block.content c.in-Err.answered (place.Block c.args.block.number) world _ _ _ _ c.refusal-refused.result
    c.in-Err.ensures
    stands
    c.refusal-refused.ensures.says
    c.refusal-refused.ensures.refused

pub returns-in-Err-say_reports-clause-cost : goal.returns-in-Err-say_reports-clause-cost
returns-in-Err-say_reports-clause-cost g c world stands =
    let is = taken _ _ c.args.block.content (place.Block c.args.block.number) world _ c.in-Ok.ensures stands in
    taken_costs world (place.Block c.args.block.number) c.args.block.content _ is _ _ (c.say_reports.ensures.cost is.after is.left is.stands)

pub returns-in-Ok-say_reports-clause-cost : goal.returns-in-Ok-say_reports-clause-cost
returns-in-Ok-say_reports-clause-cost g c world stands =
    let is = taken _ _ c.args.block.content (place.Block c.args.block.number) world _ c.in-Ok.ensures stands in
    taken_costs world (place.Block c.args.block.number) c.args.block.content _ is _ _ (c.say_reports.ensures.cost is.after is.left is.stands)
