use Rattle.rsp_trials.proofs.Given.{enough}
use Rattle.rsp_trials.proofs.side.Side.take.Goals as goal

pub apply-taken-requires : goal.apply-taken-requires
apply-taken-requires c = enough c.args.self.now.width c.args.self.now.key.items c.args.self.now.rows c.args.change.now c.distinct-before.ensures.counts c.requires
