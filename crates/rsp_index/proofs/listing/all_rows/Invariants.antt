use Rattle.std.proofs.Common.{◌≡◌, ◌+◌, ◌++◌, length}
use Rattle.rsp_index.specs.Buckets.{rows_in}
use Rattle.rsp_index.specs.Kept.{counted}
use Rattle.rsp_index.proofs.listing.all_rows.Given as goal

abbrev pub invariant-loop-bucket : goal.invariant-loop-bucket
invariant-loop-bucket g l =
    (counted l.rows.items ++ rows_in {V = g.row.V.Denot} l.bucket-iterator ≡ rows_in {V = g.row.V.Denot} l.buckets.entries)
    × (l.steps + length (rows_in {V = g.row.V.Denot} l.bucket-iterator) ≡ l.fn.steps + length (rows_in {V = g.row.V.Denot} l.buckets.entries))
