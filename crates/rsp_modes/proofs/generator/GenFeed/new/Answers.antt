use Rattle.rsp_modes.proofs.Making.{making_none}
use Rattle.rsp_modes.proofs.generator.GenFeed.new.Goals as goal

pub returns-clause-fits : goal.returns-clause-fits
returns-clause-fits c = making_none c.args.count c.requires
