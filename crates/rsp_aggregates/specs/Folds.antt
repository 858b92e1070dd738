-- Words of the way: folds of each kind, of all values or of each once.
use Rattle.std.specs.Prelude.{◌≡◌, ℕ, Bool, true, if◌then◌else◌, List, Option, ℤ}
use Rattle.std.specs.Option.{option_eq}
use Rattle.rsp_expr.specs.Aggregates.{aggregate_of, counted_values}
use Rattle.rsp_functions.specs.declared.aggregate.Kind.{Kind}
use Rattle.rsp_multiset.specs.RowLists.{each_once}
use Rattle.rsp_multiset.specs.RowSame.{cell_decides}
use Rattle.rsp_multiset.specs.Weights.{IsSameMultiset}
use Rattle.rsp_multiset.proofs.SameLists.{same-once}
use Rattle.rsp_terms.specs.declared.term.Term.{Term}
use Rattle.rsp_terms.specs.Same.{term_eq, term_same}
use Rattle.rsp_aggregates.specs.Counts as counts
use Rattle.rsp_aggregates.specs.Held.{HoldsValues, holds_alike}
use Rattle.rsp_aggregates.specs.Ordered.{extreme_aggregate, ExtremeStands, extremes_alike, extreme_aggregates_alike}
use Rattle.rsp_aggregates.specs.Sums.{sum_aggregate, SumStands, sums_alike, sum_aggregates_alike}
use Rattle.rsp_aggregates.specs.declared.folding.Folding.{Folding}
use Rattle.rsp_aggregates.specs.declared.folding.Folding.TheVariants.{Plain, Distinct}
use Rattle.rsp_aggregates.specs.declared.plain.PlainFold.{PlainFold}
use Rattle.rsp_aggregates.specs.declared.plain.PlainFold.TheVariants.{Counting, Summing, Extreme}

-- the aggregate that is asked for: COUNT(*) counts the rows
abbrev pub asked_aggregate : Kind → Bool → Bool → List (Option Term) → Option Term
asked_aggregate kind distinct star values =
    if star then counts.counted_aggregate true values else aggregate_of kind (counted_values distinct values)

-- ---- all values

abbrev pub plain_aggregate : PlainFold → List (Option Term) → Option Term
plain_aggregate (Counting fold) values = counts.counted_aggregate fold.rows values
plain_aggregate (Summing fold) values = sum_aggregate fold.average values
plain_aggregate (Extreme fold) values = extreme_aggregate fold.greatest values

abbrev pub PlainStands : PlainFold → List (Option Term) → Type 0
PlainStands (Counting fold) values = counts.Stands fold.rows fold.count values
PlainStands (Summing fold) values = SumStands fold.total fold.numbers fold.others values
PlainStands (Extreme fold) values = ExtremeStands fold.copies.errors fold.copies.terms fold.keys values

pub plain_alike : (fold : PlainFold) (values others : List (Option Term)) → IsSameMultiset (option_eq term_eq) values others
    → PlainStands fold values → PlainStands fold others
plain_alike (Counting fold) values others same stands = counts.stands_alike fold.rows fold.count values others same stands
plain_alike (Summing fold) values others same stands = sums_alike fold.total fold.numbers fold.others values others same stands
plain_alike (Extreme fold) values others same stands =
    extremes_alike fold.copies.errors fold.copies.terms fold.keys values others same stands

pub plain_aggregates_alike : (fold : PlainFold) (values others : List (Option Term))
    → IsSameMultiset (option_eq term_eq) values others
    → plain_aggregate fold values ≡ plain_aggregate fold others
plain_aggregates_alike (Counting fold) values others same = counts.aggregates_alike fold.rows values others same
plain_aggregates_alike (Summing fold) values others same = sum_aggregates_alike fold.average values others same
plain_aggregates_alike (Extreme fold) values others same = extreme_aggregates_alike fold.greatest values others same

-- ---- each value once

abbrev pub once : List (Option Term) → List (Option Term)
once values = each_once (option_eq term_eq) values

-- what holds all values, and a fold of each once
pub record OnceStands (errors : ℕ) (terms : List (Term × ℤ)) (fold : PlainFold) (values : List (Option Term)) : Type 0 where
  pub holds : HoldsValues errors terms values
  pub folded : PlainStands fold (once values)

once_same : (values others : List (Option Term)) → IsSameMultiset (option_eq term_eq) values others
    → IsSameMultiset (option_eq term_eq) (once values) (once others)
once_same values others same = same-once (cell_decides term_same) values others same

pub once_alike : (errors : ℕ) (terms : List (Term × ℤ)) (fold : PlainFold) (values others : List (Option Term))
    → IsSameMultiset (option_eq term_eq) values others → OnceStands errors terms fold values → OnceStands errors terms fold others
once_alike errors terms fold values others same stands = record {
  holds = holds_alike errors terms values others same stands.holds;
  folded = plain_alike fold (once values) (once others) (once_same values others same) stands.folded;
}

pub once_aggregates_alike : (fold : PlainFold) (values others : List (Option Term))
    → IsSameMultiset (option_eq term_eq) values others
    → plain_aggregate fold (once values) ≡ plain_aggregate fold (once others)
once_aggregates_alike fold values others same =
    plain_aggregates_alike fold (once values) (once others) (once_same values others same)

-- ---- either

abbrev pub folding_aggregate : Folding → List (Option Term) → Option Term
folding_aggregate (Plain fold) values = plain_aggregate fold values
folding_aggregate (Distinct distinct) values = plain_aggregate distinct.fold (once values)

abbrev pub FoldingStands : Folding → List (Option Term) → Type 0
FoldingStands (Plain fold) values = PlainStands fold values
FoldingStands (Distinct distinct) values = OnceStands distinct.copies.errors distinct.copies.terms distinct.fold values

pub folding_alike : (fold : Folding) (values others : List (Option Term)) → IsSameMultiset (option_eq term_eq) values others
    → FoldingStands fold values → FoldingStands fold others
folding_alike (Plain fold) values others same stands = plain_alike fold values others same stands
folding_alike (Distinct distinct) values others same stands =
    once_alike distinct.copies.errors distinct.copies.terms distinct.fold values others same stands

pub folding_aggregates_alike : (fold : Folding) (values others : List (Option Term))
    → IsSameMultiset (option_eq term_eq) values others
    → folding_aggregate fold values ≡ folding_aggregate fold others
folding_aggregates_alike (Plain fold) values others same = plain_aggregates_alike fold values others same
folding_aggregates_alike (Distinct distinct) values others same = once_aggregates_alike distinct.fold values others same
