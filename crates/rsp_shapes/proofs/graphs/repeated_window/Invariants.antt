use Rattle.std.proofs.Common.{◌≡◌, [], take, drop}
use Rattle.rsp_shapes.specs.Shapes.{repeated_window as repeated}
use Rattle.rsp_shapes.proofs.graphs.repeated_window.Given as goal

abbrev pub invariant-loop-index : goal.invariant-loop-index
invariant-loop-index l = repeated (take l.index l.windows) (drop l.index l.windows) ≡ repeated [] l.windows
