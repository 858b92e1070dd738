use Rattle.std.proofs.Common.{◌≡◌, ◌++◌, drop, map, take}
use Rattle.rsp_engine.specs.Inside.{parts_of}
use Rattle.rsp_engine.specs.Watched.{calmed}
use Rattle.rsp_engine.proofs.arrivals.calm_query.Given as goal

abbrev pub invariant-loop-window : goal.invariant-loop-window
invariant-loop-window g l =
    record {
      parts : parts_of l.live ≡ parts_of l.initial.live;
      due : l.live.due ≡ l.initial.live.due;
      watched : l.live.watched.items
          ≡ map calmed (take l.window l.initial.live.watched.items) ++ drop l.window l.initial.live.watched.items;
    }
