use Rattle.std.proofs.Common.{ℕ, ◌≤◌, ◌+◌, ◌-◌}
use Rattle.rsp_report.specs.Leaps.{AllHold}
use Rattle.rsp_report.proofs.leaps.next_of_all.Given as goal

abbrev pub invariant-turns : goal.invariant-turns
invariant-turns l = (l.fn.from ≤ l.at) × ((t : ℕ) → l.fn.from ≤ t → AllHold l.policy l.watched t → l.at ≤ t)

abbrev pub decreases-turns : goal.decreases-turns
decreases-turns l = l.to + 1 - l.at
