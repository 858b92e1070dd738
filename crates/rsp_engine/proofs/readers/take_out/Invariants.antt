use Rattle.std.proofs.Common.{◌≡◌, ◌++◌, drop, map, take}
use Rattle.rsp_engine.specs.Readers.{lowered}
use Rattle.rsp_engine.proofs.readers.take_out.Given as goal

abbrev pub invariant-loop-index : goal.invariant-loop-index
invariant-loop-index l =
    l.places.items ≡ map (lowered l.place) (take l.index l.initial.places.items) ++ drop l.index l.initial.places.items
