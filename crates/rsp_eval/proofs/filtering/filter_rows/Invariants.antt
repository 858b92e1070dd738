use Rattle.std.proofs.Common.{◌≡◌, ◌++◌, filter}
use Rattle.std.specs.Vec.Iter.{into_iter_items}
use Rattle.rsp_expr.specs.Meanings.{formula_of}
use Rattle.rsp_expr.specs.Values.{truth}
use Rattle.rsp_eval.proofs.filtering.filter_rows.Given as goal

abbrev pub invariant-loop-row : goal.invariant-loop-row
invariant-loop-row l =
    l.kept.items ++ filter (truth (formula_of l.condition)) (into_iter_items l.row-iterator)
    ≡ filter (truth (formula_of l.condition)) l.fn.rows.items
