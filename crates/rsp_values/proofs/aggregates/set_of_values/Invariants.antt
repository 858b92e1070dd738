use Rattle.std.proofs.Common.{◌≡◌}
use Rattle.std.specs.Option.{option_eq}
use Rattle.std.specs.Vec.Iter.{into_iter_items}
use Rattle.rsp_multiset.specs.RowLists.{each_once}
use Rattle.rsp_terms.specs.Same.{term_eq}
use Rattle.rsp_values.proofs.Once.{once_onto}
use Rattle.rsp_values.proofs.aggregates.set_of_values.Given as goal

abbrev pub invariant-loop-value : goal.invariant-loop-value
invariant-loop-value l =
    once_onto (option_eq term_eq) l.set.keys (into_iter_items l.value-iterator) ≡ each_once (option_eq term_eq) l.fn.values.items
