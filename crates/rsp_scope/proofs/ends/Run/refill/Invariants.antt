use Rattle.std.proofs.Common.{◌≡◌, ◌+◌, ◌≤◌, ℕ, drop, length, sum_by}
use Rattle.rsp_scope.specs.Runs.{over_items, triples_in}
use Rattle.rsp_scope.specs.declared.ends.Ending.{Ending}
use Rattle.rsp_scope.proofs.ends.Run.refill.Given as goal

abbrev pub invariant-loop-at : goal.invariant-loop-at
invariant-loop-at l =
    (l.self-inside.triples ≡ triples_in l.self-inside.rising.items)
    × (length l.self-inside.rising.items + l.start ≡ l.at)
    × (l.behind ≤ l.start + l.self-inside.rising.cap)
    × ((f : Ending → ℕ) → sum_by f l.self-inside.rising.items + over_items f (drop l.at l.items.items) ≡ over_items f (drop l.start l.items.items))
