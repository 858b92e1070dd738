use Rattle.std.proofs.Common.{◌≡◌, ◌++◌, map}
use Rattle.rsp_engine.specs.Reports.{cells_at}
use Rattle.rsp_engine.proofs.rows.all_cut.Given as goal

abbrev pub invariant-loop-row : goal.invariant-loop-row
invariant-loop-row l = l.all ++ map (cells_at l.shown) l.row-iterator.rest.items ≡ map (cells_at l.shown) l.fn.rows.items
