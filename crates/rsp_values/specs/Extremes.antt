-- Words of the way: the least or the greatest term, taken one by one.
use Rattle.std.specs.Prelude.{Bool, cond, Option, Some, None, List}
use Rattle.std.specs.List.{fold, reduce}
use Rattle.std.specs.Ordering.{ord_min, ord_max}
use Rattle.rsp_terms.specs.declared.term.Term.{Term}
use Rattle.rsp_expr.specs.Order.{term_order}

-- the greater of two terms, or the lesser
abbrev pub better : Bool → Term → Term → Term
better greatest first second = cond greatest (ord_max term_order first second) (ord_min term_order first second)

-- the better of a term and those before, where there are some
abbrev pub better_or_first : Bool → Option Term → Term → Term
better_or_first greatest None term = term
better_or_first greatest (Some best) term = better greatest best term

-- the best of those before and of others
abbrev pub best_with : Bool → Option Term → List Term → Option Term
best_with greatest None terms = reduce (better greatest) terms
best_with greatest (Some best) terms = Some (fold (better greatest) best terms)
