-- Words of the way: the sum of the values that have a number, and how many have none.
use Rattle.std.specs.Prelude.{◌≡◌, ℕ, ◌+◌, ◌≤◌, ◌==◌, pos, cond, Bool, true, false, List, [], ◌∷◌, length, refl}
use Rattle.std.specs.Prelude.{Option, None, Some}
use Rattle.std.specs.Option.{option_and_then, option_eq}
use Rattle.std.proofs.Common.{◌∙◌, ap}
use Rattle.rsp_spec.specs.Limits.{most_counted}
use Rattle.rsp_expr.specs.Aggregates.{aggregate_of}
use Rattle.rsp_expr.specs.Forms.{number_of}
use Rattle.rsp_expr.proofs.Reordered.{IsReordered, nothing, behind, exchanged, onward, reordered, added_in_turn}
use Rattle.rsp_expr.proofs.SameAggregates.{same_aggregate_of, taken_in_turn}
use Rattle.rsp_functions.specs.declared.aggregate.Kind.TheVariants.{Sum, Avg}
use Rattle.rsp_multiset.specs.RowSame.{cell_decides}
use Rattle.rsp_multiset.specs.Weights.{IsSameMultiset}
use Rattle.rsp_number.specs.Tallies.{Tally}
use Rattle.rsp_number.specs.Totals.{empty_tally, after_taking, value_of_total}
use Rattle.rsp_number.specs.Numbers.{integer_result, quotient}
use Rattle.rsp_expr.specs.Errors.{value_of_both}
use Rattle.rsp_number.specs.declared.number.Number.{Number}
use Rattle.rsp_terms.specs.declared.term.Term.{Term}
use Rattle.rsp_terms.specs.Same.{term_eq, term_same}
use Rattle.rsp_aggregates.specs.Held.{short_alike}

-- the average, or else the sum
abbrev pub sum_aggregate : Bool → List (Option Term) → Option Term
sum_aggregate true values = aggregate_of Avg values
sum_aggregate false values = aggregate_of Sum values

abbrev pub number_in : Option Term → Option Number
number_in value = option_and_then number_of value

-- the sum divided by how many numbers there are; of none the integer 0
abbrev pub mean : Tally → ℕ → Option Number
mean tally numbers =
    cond (numbers == 0) (integer_result (pos 0)) (value_of_both quotient (value_of_total tally) (integer_result (pos numbers)))

-- the number, where there is one, is taken in so many times
abbrev pub tally_with : Tally → Option Number → ℕ → Tally
tally_with tally None times = tally
tally_with tally (Some number) times = after_taking tally number times

abbrev pub tally_in : List (Option Term) → Tally
tally_in [] = empty_tally
tally_in (value ∷ values) = tally_with (tally_in values) (number_in value) 1

-- so many times what has no number, else 0
abbrev pub numberless : Option Number → ℕ → ℕ
numberless None times = times
numberless (Some number) times = 0

-- how many of the values are errors or have no number
abbrev pub others_in : List (Option Term) → ℕ
others_in [] = 0
others_in (value ∷ values) = others_in values + numberless (number_in value) 1

pub record SumStands (tally : Tally) (numbers others : ℕ) (values : List (Option Term)) : Type 0 where
  pub sum : tally ≡ tally_in values
  pub counted : numbers ≡ tally.integers + tally.decimals
  pub failed : others ≡ others_in values
  pub short : length values ≤ most_counted

with_in_turn : (tally : Tally) (first second : Option Number)
    → tally_with (tally_with tally first 1) second 1 ≡ tally_with (tally_with tally second 1) first 1
with_in_turn tally None second = refl
with_in_turn tally (Some first) None = refl
with_in_turn tally (Some first) (Some second) = taken_in_turn tally first second

tally_reordered : (values others : List (Option Term)) → IsReordered values others → tally_in values ≡ tally_in others
tally_reordered left right nothing = refl
tally_reordered left right (behind x xs ys same) = ap (λ tally. tally_with tally (number_in x) 1) (tally_reordered xs ys same)
tally_reordered left right (exchanged x y xs) = with_in_turn (tally_in xs) (number_in y) (number_in x)
tally_reordered left right (onward xs ys zs first second) = tally_reordered xs ys first ∙ tally_reordered ys zs second

others_reordered : (values others : List (Option Term)) → IsReordered values others → others_in values ≡ others_in others
others_reordered left right nothing = refl
others_reordered left right (behind x xs ys same) = ap (λ n. n + numberless (number_in x) 1) (others_reordered xs ys same)
others_reordered left right (exchanged x y xs) =
    added_in_turn (others_in xs) (numberless (number_in y) 1) (numberless (number_in x) 1)
others_reordered left right (onward xs ys zs first second) = others_reordered xs ys first ∙ others_reordered ys zs second

pub sums_alike : (tally : Tally) (numbers others : ℕ) (values same : List (Option Term))
    → IsSameMultiset (option_eq term_eq) values same → SumStands tally numbers others values → SumStands tally numbers others same
sums_alike tally numbers others values same alike stands =
    let order : IsReordered values same = reordered (cell_decides term_same) values same alike in
    record {
      sum = stands.sum ∙ tally_reordered values same order;
      counted = stands.counted;
      failed = stands.failed ∙ others_reordered values same order;
      short = short_alike values same alike stands.short;
    }

pub sum_aggregates_alike : (average : Bool) (values others : List (Option Term))
    → IsSameMultiset (option_eq term_eq) values others → sum_aggregate average values ≡ sum_aggregate average others
sum_aggregates_alike true values others same =
    same_aggregate_of Avg values others (reordered (cell_decides term_same) values others same)
sum_aggregates_alike false values others same =
    same_aggregate_of Sum values others (reordered (cell_decides term_same) values others same)
