use Rattle.std.proofs.Common.{subst, sym}
use Rattle.rsp_modes.specs.Logs.{Begins}
use Rattle.rsp_modes.proofs.Logging.{log_begun}
use Rattle.rsp_modes.proofs.log.LogFeed.new.Goals as goal

pub returns-clause-gave : goal.returns-clause-gave
returns-clause-gave c source =
    log_begun c.args.most c.new.result source c.new.ensures.read (subst (λ d. Begins d) (sym c.new.ensures.document) c.new.ensures.prefix)
