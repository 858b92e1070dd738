use Rattle.std.proofs.Common.{◌≡◌, ◌+◌, ◌≤◌, ℕ, length, drop, take}
use Rattle.rsp_scope.specs.Runs.{one, over, over_items}
use Rattle.rsp_scope.specs.declared.ends.Ending.{Ending}
use Rattle.rsp_scope.proofs.runs.refill.Given as goal

-- the runs in front hold what stands in front; those behind are long enough for the rest
abbrev pub invariant-loop-at : goal.invariant-loop-at
invariant-loop-at l =
    (l.start ≤ length l.items.items)
    × (length l.items.items ≤ l.start + over one (drop l.at l.runs.items))
    × ((f : Ending → ℕ) → over f (take l.at l.runs.items) + over_items f (drop l.start l.items.items) ≡ over_items f l.items.items)
