use Rattle.std.proofs.Common.{ℕ, ◌≤◌, ◌<◌, ◌^◌, ◌+◌, ◌-◌}
use Rattle.std.specs.List.{Contains}
use Rattle.rsp_spec.specs.Relations.{IsNeeded}
use Rattle.rsp_report.proofs.jumps.first_needed.Given as goal

abbrev pub invariant-gaps : goal.invariant-gaps
invariant-gaps l = (l.fn.t ≤ l.reach) × (l.reach ≤ 2 ^ 48)
    × ((time : ℕ) → Contains l.watched.times time → l.low < time → IsNeeded l.watched.window time l.fn.t → IsNeeded l.watched.window time l.reach)

abbrev pub decreases-gaps : goal.decreases-gaps
decreases-gaps l = 2 ^ 48 + 1 - l.reach
