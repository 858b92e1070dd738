use Rattle.rsp_engine.proofs.Following.{MoveOn}
use Rattle.rsp_engine.proofs.reporting.move_windows.Given as goal

abbrev pub invariant-loop-window : goal.invariant-loop-window
invariant-loop-window l = MoveOn l.streams l.at l.window l.initial.contents l.contents l.initial.changes l.changes
