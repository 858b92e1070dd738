use Rattle.std.proofs.Common.{◌≡◌, ◌++◌, drop}
use Rattle.rsp_numbering.proofs.items.row_of.Given as goal

abbrev pub invariant-loop-value : goal.invariant-loop-value
invariant-loop-value l = l.made ++ drop l.value-index l.row ≡ l.row
