use Rattle.std.proofs.Common.{◌≡◌, ◌++◌, map, drop}
use Rattle.rsp_numbering.proofs.items.rows_of.Given as goal

abbrev pub invariant-loop-row : goal.invariant-loop-row
invariant-loop-row l =
    l.made.items ++ map (λ row. row.items) (drop l.row-index l.rows) ≡ map (λ row. row.items) l.rows
