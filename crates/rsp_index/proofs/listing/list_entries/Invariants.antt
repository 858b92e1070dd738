use Rattle.std.proofs.Common.{◌≡◌, ◌+◌, ◌++◌, length}
use Rattle.rsp_index.specs.Kept.{counted}
use Rattle.rsp_index.proofs.listing.list_entries.Given as goal

abbrev pub decreases-loop-row : goal.decreases-loop-row
decreases-loop-row g l = length l.entries

abbrev pub invariant-loop-row : goal.invariant-loop-row
invariant-loop-row g l =
    (counted l.rows.items ++ l.entries ≡ counted l.initial.rows.items ++ l.initial.entries)
    × (l.steps + length l.entries ≡ l.initial.steps + length l.initial.entries)
