use Rattle.std.proofs.Common.{take}
use Rattle.rsp_engine.specs.Watched.{IsMoved}
use Rattle.rsp_engine.proofs.PlacesRead.{AreDone}
use Rattle.rsp_engine.proofs.arrivals.attend.Given as goal

abbrev pub invariant-loop-index : goal.invariant-loop-index
invariant-loop-index g l =
    AreDone (IsMoved l.stream l.time l.from) (take l.index l.places) l.initial.queries l.queries
