use Rattle.std.proofs.Common.{◌≡◌, ◌++◌}
use Rattle.std.specs.Option.{option_map}
use Rattle.std.specs.Vec.Iter.{into_iter_items}
use Rattle.rsp_expr.specs.Errors.{all_values}
use Rattle.rsp_values.proofs.aggregates.terms_in.Given as goal

abbrev pub invariant-loop-value : goal.invariant-loop-value
invariant-loop-value l =
    option_map (λ others. l.terms.items ++ others) (all_values (into_iter_items l.value-iterator)) ≡ all_values l.fn.values.items
