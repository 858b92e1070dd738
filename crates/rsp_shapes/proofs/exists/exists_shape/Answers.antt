use Rattle.std.proofs.Common.{◌∙◌}
use Rattle.rsp_query.specs.Meanings.{registered}
use Rattle.rsp_shapes.proofs.Walked.{exists_of_is}
use Rattle.rsp_shapes.proofs.exists.exists_shape.Goals as goal

pub returns : goal.returns
returns c = c.fault_of.ensures ∙ exists_of_is (registered c.args.query.now).selection
