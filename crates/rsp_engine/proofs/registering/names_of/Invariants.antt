use Rattle.std.proofs.Common.{◌≡◌, ◌++◌, drop, map}
use Rattle.rsp_shapes.specs.Visible.{name_of}
use Rattle.rsp_engine.proofs.registering.names_of.Given as goal

abbrev pub invariant-loop-variable : goal.invariant-loop-variable
invariant-loop-variable l =
    l.those ++ map (name_of l.names) (drop l.variable-index l.shown) ≡ map (name_of l.names) l.shown
