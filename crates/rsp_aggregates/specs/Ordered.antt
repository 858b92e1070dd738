-- Words of the way: the least and the greatest of values of which each is kept once, in order.
use Rattle.std.specs.Prelude.{◌≡◌, if◌then◌else◌, ℕ, Bool, true, false, List, Option, Some, ℤ}
use Rattle.std.specs.BTreeSet.{BTreeSet, contains}
use Rattle.std.specs.Option.{option_eq}
use Rattle.std.specs.Ordering.{is_lt, is_gt}
use Rattle.std.proofs.Common.{◌∙◌}
use Rattle.rsp_expr.specs.Aggregates.{aggregate_of}
use Rattle.rsp_expr.specs.Order.{term_order}
use Rattle.rsp_expr.proofs.Reordered.{reordered}
use Rattle.rsp_expr.proofs.SameAggregates.{same_aggregate_of}
use Rattle.rsp_functions.specs.declared.aggregate.Kind.TheVariants.{Min, Max}
use Rattle.rsp_multiset.specs.RowSame.{cell_decides}
use Rattle.rsp_multiset.specs.Weights.{IsSameMultiset}
use Rattle.rsp_multiset.proofs.SameLists.{same-any}
use Rattle.rsp_terms.specs.declared.term.Term.{Term}
use Rattle.rsp_terms.specs.Same.{term_eq, term_same}
use Rattle.rsp_aggregates.specs.Held.{HoldsValues, is_in, holds_alike}

-- the greatest, or else the least
abbrev pub extreme_aggregate : Bool → List (Option Term) → Option Term
extreme_aggregate true values = aggregate_of Max values
extreme_aggregate false values = aggregate_of Min values

-- the terms that are in, and no others, are the keys
pub record ExtremeStands (errors : ℕ) (terms : List (Term × ℤ)) (keys : BTreeSet Term)
    (values : List (Option Term)) : Type 0 where
  pub holds : HoldsValues errors terms values
  pub keyed : (term : Term) → contains term_order keys term ≡ is_in (Some term) values

-- the key is there, and none is greater, or else none is less
pub record IsEnd (greatest : Bool) (keys : BTreeSet Term) (key : Term) : Type 0 where
  pub there : contains term_order keys key ≡ true
  pub extreme : (term : Term) → contains term_order keys term ≡ true
      → (if greatest then is_lt (term_order key term) else is_gt (term_order key term)) ≡ false

pub extremes_alike : (errors : ℕ) (terms : List (Term × ℤ)) (keys : BTreeSet Term) (values others : List (Option Term))
    → IsSameMultiset (option_eq term_eq) values others → ExtremeStands errors terms keys values
    → ExtremeStands errors terms keys others
extremes_alike errors terms keys values others same stands = record {
  holds = holds_alike errors terms values others same stands.holds;
  keyed = λ term. stands.keyed term
      ∙ same-any (cell_decides term_same) (option_eq term_eq (Some term)) values others same;
}

pub extreme_aggregates_alike : (greatest : Bool) (values others : List (Option Term))
    → IsSameMultiset (option_eq term_eq) values others → extreme_aggregate greatest values ≡ extreme_aggregate greatest others
extreme_aggregates_alike true values others same =
    same_aggregate_of Max values others (reordered (cell_decides term_same) values others same)
extreme_aggregates_alike false values others same =
    same_aggregate_of Min values others (reordered (cell_decides term_same) values others same)
