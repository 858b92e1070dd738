use Rattle.std.proofs.Common.{[], ◌∙◌}
use Rattle.rsp_engine.specs.World.{empty_world}
use Rattle.rsp_modes.specs.Output.{start_of}
use Rattle.rsp_modes.proofs.Logging.{document_still, log_answers}
use Rattle.rsp_modes.proofs.Spending.{log_costs}
use Rattle.rsp_modes.proofs.modes.events.Goals as goal

pub returns-clause-log : goal.returns-clause-log
returns-clause-log g c =
    log_answers (start_of c.args.log) _ _ _ _ _ _ _ _ _ _ _ _ _ _ _ c.drive-driven.result _
    c.drive-driven.ensures.settings
    c.new-feed.ensures.most
    c.new-feed.ensures.document
    c.new_engine-engine.ensures.stands
    (c.drive-driven.ensures.drove _ [] (c.new-feed.ensures.gave _))
    c.status_of_drive.ensures

pub returns-clause-cost : goal.returns-clause-cost
returns-clause-cost g c =
    log_costs (empty_world c.args.log.slack) 1 _ _ _ _ _ _ _ _ _ _ _ c.drive-driven.result
    (document_still _ _ _ _ c.drive-driven.ensures.settings ∙ c.new-feed.ensures.document)
    c.new_engine-engine.ensures.stands
    (c.drive-driven.ensures.cost _ [] (c.new-feed.ensures.gave _))
