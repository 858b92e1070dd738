use Rattle.std.proofs.Common.{◌≡◌, ◌++◌, map, drop}
use Rattle.rsp_expr.specs.Meanings.{formula_of}
use Rattle.rsp_expr.specs.Values.{value}
use Rattle.rsp_values.proofs.aggregates.argument_values.Given as goal

abbrev pub invariant-loop-row : goal.invariant-loop-row
invariant-loop-row l =
    l.found.items ++ map (value (formula_of l.argument)) (drop l.row-index l.rows) ≡ map (value (formula_of l.argument)) l.rows
