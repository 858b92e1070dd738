use Rattle.std.proofs.Common.{◌≡◌, ◌≤◌, ◌+◌, cond, drop, is_some}
use Rattle.std.specs.List.{count_by, fold}
use Rattle.rsp_values.proofs.aggregates.count_of.Given as goal

abbrev pub invariant-loop-value : goal.invariant-loop-value
invariant-loop-value l =
    (fold (λ n value. n + cond (is_some value) 1 0) l.count (drop l.value-index l.values) ≡ count_by is_some l.values)
    × (l.count ≤ l.value-index)
