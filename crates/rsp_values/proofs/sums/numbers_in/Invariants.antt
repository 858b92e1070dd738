use Rattle.std.proofs.Common.{◌≡◌, ◌++◌, drop}
use Rattle.std.specs.Option.{option_map}
use Rattle.rsp_expr.specs.Aggregates.{numbers_of}
use Rattle.rsp_values.proofs.sums.numbers_in.Given as goal

abbrev pub invariant-loop-value : goal.invariant-loop-value
invariant-loop-value l =
    option_map (λ others. l.numbers.items ++ others) (numbers_of (drop l.value-index l.values)) ≡ numbers_of l.values
