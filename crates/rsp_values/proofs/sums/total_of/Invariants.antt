use Rattle.std.proofs.Common.{◌≡◌, ◌+◌, drop}
use Rattle.std.specs.List.{fold}
use Rattle.rsp_number.specs.Totals.{after_taking}
use Rattle.rsp_expr.specs.Aggregates.{total_of}
use Rattle.rsp_values.proofs.sums.total_of.Given as goal

abbrev pub invariant-loop-number : goal.invariant-loop-number
invariant-loop-number l =
    (fold (λ tally number. after_taking tally number 1) l.total (drop l.number-index l.numbers) ≡ total_of l.numbers)
    × (l.total.integers + l.total.decimals ≡ l.number-index)
