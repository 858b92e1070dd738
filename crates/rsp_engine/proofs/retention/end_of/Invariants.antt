use Rattle.std.proofs.Common.{take}
use Rattle.rsp_engine.specs.Readers.{IsEndBy}
use Rattle.rsp_engine.proofs.retention.end_of.Given as goal

abbrev pub invariant-loop-window : goal.invariant-loop-window
invariant-loop-window l = IsEndBy (take l.window-index l.windows) l.number l.time l.end
