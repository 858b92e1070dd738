use Rattle.std.proofs.Common.{◌≡◌, ◌<◌, ℕ, nat_lt, slice_index_or}
use Rattle.rsp_scope.proofs.pieces.tells_apart.Given as goal

abbrev pub invariant-loop-place : goal.invariant-loop-place
invariant-loop-place l =
    (k d : ℕ) → k < l.place-index → nat_lt (slice_index_or l.places k d) l.piece.end ≡ nat_lt (slice_index_or l.places k d) l.other.end
