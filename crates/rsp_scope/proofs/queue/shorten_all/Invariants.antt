use Rattle.std.proofs.Common.{◌≡◌, ◌-◌, ◌≤◌, ◌++◌, drop, take, length}
use Rattle.rsp_scope.specs.Kept.{shortened}
use Rattle.rsp_scope.proofs.queue.shorten_all.Given as goal

abbrev pub invariant-loop-until : goal.invariant-loop-until
invariant-loop-until l = (length l.untils - l.until-index ≤ length l.items.items)
    × (drop (length l.untils - l.until-index) l.items.items
    ++ shortened (take (length l.untils - l.until-index) l.items.items) (drop l.until-index l.untils)
    ≡ shortened l.initial.items.items l.untils)
