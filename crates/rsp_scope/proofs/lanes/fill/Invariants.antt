use Rattle.std.proofs.Common.{◌≡◌, ◌++◌, ℕ, List, drop}
use Rattle.rsp_scope.specs.Lanes.{lane_of, peak_of, room_of, slots_of}
use Rattle.rsp_scope.proofs.lanes.fill.Given as goal

abbrev pub invariant-loop-at : goal.invariant-loop-at
invariant-loop-at l =
    ((s : List ℕ) → lane_of l.lanes.entries s ++ slots_of s l.at (peak_of 0 (lane_of l.lanes.entries s)) (drop l.at l.items.items) ≡ slots_of s 0 0 l.items.items)
    × ((s : List ℕ) → room_of l.lanes.entries s ≡ room_of l.initial.lanes.entries s)
