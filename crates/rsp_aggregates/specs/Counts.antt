-- Words of the way: counts of values.
use Rattle.std.specs.Prelude.{◌≡◌, ℕ, ◌≤◌, Bool, true, false, List, length, Option, is_some, pos}
use Rattle.std.specs.List.{count_by}
use Rattle.std.specs.Option.{option_eq}
use Rattle.std.proofs.Common.{ap, subst, ◌∙◌}
use Rattle.rsp_spec.specs.Limits.{most_counted}
use Rattle.rsp_expr.specs.Aggregates.{aggregate_of}
use Rattle.rsp_expr.specs.Functions.{numeral_result}
use Rattle.rsp_expr.proofs.Reordered.{count_by-reordered, reordered}
use Rattle.rsp_expr.proofs.SameAggregates.{same_aggregate_of}
use Rattle.rsp_functions.specs.declared.aggregate.Kind.TheVariants.{Count}
use Rattle.rsp_multiset.specs.RowSame.{cell_decides}
use Rattle.rsp_multiset.specs.Weights.{IsSameMultiset}
use Rattle.rsp_multiset.proofs.Linear.{length-same}
use Rattle.rsp_number.specs.Numbers.{integer_result}
use Rattle.rsp_terms.specs.declared.term.Term.{Term}
use Rattle.rsp_terms.specs.Same.{term_eq, term_same}

-- of rows all, else those that are no errors
abbrev pub counted : Bool → List (Option Term) → ℕ
counted true values = length values
counted false values = count_by is_some values

abbrev pub counted_aggregate : Bool → List (Option Term) → Option Term
counted_aggregate true values = numeral_result (integer_result (pos (length values)))
counted_aggregate false values = aggregate_of Count values

pub record Stands (rows : Bool) (count : ℕ) (values : List (Option Term)) : Type 0 where
  pub counts : count ≡ counted rows values
  pub short : length values ≤ most_counted

counted_alike : (rows : Bool) (values others : List (Option Term)) → IsSameMultiset (option_eq term_eq) values others
    → counted rows values ≡ counted rows others
counted_alike true values others same = length-same (cell_decides term_same) values others same
counted_alike false values others same =
    count_by-reordered is_some values others (reordered (cell_decides term_same) values others same)

pub stands_alike : (rows : Bool) (count : ℕ) (values others : List (Option Term))
    → IsSameMultiset (option_eq term_eq) values others
    → Stands rows count values → Stands rows count others
stands_alike rows count values others same stands = record {
  counts = stands.counts ∙ counted_alike rows values others same;
  short = subst (λ n. n ≤ most_counted) (length-same (cell_decides term_same) values others same) stands.short;
}

pub aggregates_alike : (rows : Bool) (values others : List (Option Term)) → IsSameMultiset (option_eq term_eq) values others
    → counted_aggregate rows values ≡ counted_aggregate rows others
aggregates_alike true values others same =
    ap (λ n. numeral_result (integer_result (pos n))) (length-same (cell_decides term_same) values others same)
aggregates_alike false values others same =
    same_aggregate_of Count values others (reordered (cell_decides term_same) values others same)
