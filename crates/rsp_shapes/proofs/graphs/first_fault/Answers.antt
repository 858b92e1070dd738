use Rattle.std.proofs.Common.{◌∙◌}
use Rattle.rsp_query.specs.Meanings.{selection_of}
use Rattle.rsp_shapes.specs.Shapes.{declared}
use Rattle.rsp_shapes.proofs.Walked.{graph_of_is}
use Rattle.rsp_shapes.proofs.graphs.first_fault.Goals as goal

pub returns : goal.returns
returns c = c.fault_of.ensures ∙ graph_of_is (declared c.args.windows.now) (selection_of c.args.select.now)
