use Rattle.std.proofs.Common.{take}
use Rattle.rsp_engine.specs.Watched.{IsCalmed}
use Rattle.rsp_engine.proofs.PlacesRead.{AreDone}
use Rattle.rsp_engine.proofs.arrivals.calm_watchers.Given as goal

abbrev pub invariant-loop-index : goal.invariant-loop-index
invariant-loop-index g l = AreDone IsCalmed (take l.index l.places) l.initial.queries l.queries
