use Rattle.std.proofs.Common.{◌≡◌}
use Rattle.rsp_engine.specs.Inside.{parts_of}
use Rattle.rsp_engine.proofs.WatchedWith.{AreSoFar}
use Rattle.rsp_engine.proofs.arrivals.watch_query.Given as goal

abbrev pub invariant-loop-window : goal.invariant-loop-window
invariant-loop-window g l =
    record {
      parts : parts_of l.live ≡ parts_of l.initial.live;
      watched : AreSoFar l.stream l.time l.from l.window l.initial.live.windows l.initial.live.watched.items l.live.watched.items;
    }
