use Rattle.std.proofs.Common.{◌≡◌, ◌++◌, drop, map, Some}
use Rattle.rsp_index.proofs.listing.bound_row.Given as goal

abbrev pub invariant-loop-value : goal.invariant-loop-value
invariant-loop-value g l = l.cells.items ++ map Some (drop l.value-index l.values) ≡ map Some l.values
