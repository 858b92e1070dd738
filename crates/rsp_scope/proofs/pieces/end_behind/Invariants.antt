use Rattle.std.proofs.Common.{◌<◌, ◌≤◌, ◌+◌, ℕ, slice_index_or}
use Rattle.std.specs.List.{All}
use Rattle.rsp_scope.proofs.pieces.end_behind.Given as goal

abbrev pub invariant-loop-place : goal.invariant-loop-place
invariant-loop-place l =
    ((k d : ℕ) → k < l.place-index → slice_index_or l.places k d < l.end)
    × ((top : ℕ) → All (λ place. place ≤ top) l.places → l.end ≤ top + 1)
