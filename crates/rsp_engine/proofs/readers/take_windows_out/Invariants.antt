use Rattle.std.proofs.Common.{◌≡◌, ◌++◌, drop, map, take}
use Rattle.rsp_engine.specs.Readers.{lowered_window}
use Rattle.rsp_engine.proofs.readers.take_windows_out.Given as goal

abbrev pub invariant-loop-index : goal.invariant-loop-index
invariant-loop-index l =
    l.windows.items ≡ map (lowered_window l.place) (take l.index l.initial.windows.items) ++ drop l.index l.initial.windows.items
