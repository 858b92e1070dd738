use Rattle.std.proofs.Common.{◌≡◌, ◌++◌}
use Rattle.std.specs.Option.{option_eq}
use Rattle.rsp_multiset.specs.RowLists.{each_once}
use Rattle.rsp_terms.specs.Same.{term_eq}
use Rattle.rsp_values.proofs.aggregates.distinct_values.Given as goal

abbrev pub invariant-loop-value : goal.invariant-loop-value
invariant-loop-value l = l.kept.items ++ l.value-iterator ≡ each_once (option_eq term_eq) l.fn.values.items
