use Rattle.std.proofs.Common.{◌≡◌}
use Rattle.std.specs.List.{reduce}
use Rattle.std.specs.Vec.Iter.{into_iter_items}
use Rattle.rsp_values.specs.Extremes.{better, best_with}
use Rattle.rsp_values.proofs.extremes.greatest_or_least.Given as goal

abbrev pub invariant-loop-term : goal.invariant-loop-term
invariant-loop-term l =
    best_with l.greatest l.best (into_iter_items l.term-iterator) ≡ reduce (better l.greatest) l.fn.terms.items
