use Rattle.std.proofs.Common.{◌≡◌, drop, length}
use Rattle.std.specs.List.{AllByRecursion}
use Rattle.rsp_query_tests.proofs.fitting.have_width.Given as goal

abbrev pub invariant-loop-row : goal.invariant-loop-row
invariant-loop-row l =
    AllByRecursion (λ row. length row ≡ l.width) (drop l.row-index l.rows) → AllByRecursion (λ row. length row ≡ l.width) l.rows
