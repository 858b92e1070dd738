-- The value of an aggregate depends on how often each row stands in the group alone, and not on their order.
use Rattle.std.proofs.Common.{◌≡◌, ℕ, Bool, true, false, List, ◌∷◌, ℤ, pos, ◌+ℤ◌, ◌*ℤ◌, Option, Some, None, is_some, length, map, refl, ap, ◌∙◌, arith}
use Rattle.std.specs.Option.{option_and_then, option_eq}
use Rattle.std.specs.Ordering.{ord_min, ord_max}
use Rattle.std.proofs.lemmas.Int.{ints}
use Rattle.rsp_multiset.specs.Rows.{Cells, row_eq}
use Rattle.rsp_multiset.specs.RowSame.{cell_decides, row_decides}
use Rattle.rsp_multiset.specs.Weights.{IsSameMultiset}
use Rattle.rsp_multiset.proofs.Linear.{length-same}
use Rattle.rsp_multiset.proofs.SameLists.{same-map, same-once}
use Rattle.rsp_number.specs.Numbers.{integer_result, quotient}
use Rattle.rsp_number.specs.Tallies.{Tally}
use Rattle.rsp_number.specs.Totals.{units, integers_of, decimals_of, empty_tally, after_taking, value_of_total}
use Rattle.rsp_number.specs.declared.number.Number.{Number}
use Rattle.rsp_terms.specs.declared.term.Term.{Term}
use Rattle.rsp_terms.specs.Same.{term_eq, term_same}
use Rattle.rsp_expr.specs.Aggregates.{counted_values, numbers_of, total_of, sum_of, average_of, least_of, greatest_of, aggregate_of, value_over, aggregate_value}
use Rattle.rsp_expr.specs.Errors.{value_of_both}
use Rattle.rsp_expr.specs.Formulas.{Formula, Aggregation}
use Rattle.rsp_expr.specs.Forms.{number_of}
use Rattle.rsp_expr.specs.Functions.{numeral_result}
use Rattle.rsp_expr.specs.Order.{term_order}
use Rattle.rsp_expr.specs.Values.{value}
use Rattle.rsp_functions.specs.declared.aggregate.Kind.{Kind}
use Rattle.rsp_functions.specs.declared.aggregate.Kind.TheVariants.{Count, Sum, Avg, Min, Max}
use Rattle.rsp_expr.proofs.Extremes.{min_commutes, min_turns, max_commutes, max_turns}
use Rattle.rsp_expr.proofs.Reordered.{IsReordered, added_in_turn, nothing, behind, exchanged, onward, fold-reordered, reduce-reordered, count_by-reordered, length-reordered, map-reordered, given_all-reordered, reordered}
use Rattle.rsp_expr.proofs.TermOrder.{term_order_total, same_in_order}

-- ---- sums

summed_in_turn : (a b c : ℤ) → (a +ℤ b) +ℤ c ≡ (a +ℤ c) +ℤ b
summed_in_turn a b c = omega (arith, ints)

pub taken_in_turn : (tally : Tally) (first second : Number)
    → after_taking (after_taking tally first 1) second 1 ≡ after_taking (after_taking tally second 1) first 1
taken_in_turn tally first second =
    λ i. record {
      sum = summed_in_turn tally.sum (units first *ℤ pos 1) (units second *ℤ pos 1) i;
      integers = added_in_turn tally.integers (integers_of first 1) (integers_of second 1) i;
      decimals = added_in_turn tally.decimals (decimals_of first 1) (decimals_of second 1) i;
    }

pub same_total : (numbers others : List Number) → IsReordered numbers others → total_of numbers ≡ total_of others
same_total numbers others same =
    fold-reordered (λ tally number. after_taking tally number 1) taken_in_turn empty_tally numbers others same

pub same_sum : (numbers others : List Number) → IsReordered numbers others → sum_of numbers ≡ sum_of others
same_sum numbers others same = ap value_of_total (same_total numbers others same)

-- ---- averages

abbrev average_by : Tally → ℕ → Option Number
average_by tally count = value_of_both quotient (value_of_total tally) (integer_result (pos count))

pub same_average : (numbers others : List Number) → IsReordered numbers others → average_of numbers ≡ average_of others
same_average left right nothing = refl
same_average left right (behind x xs ys same) =
    (λ i. average_by (same_total (x ∷ xs) (x ∷ ys) (behind x xs ys same) i)
    (length-reordered (x ∷ xs) (x ∷ ys) (behind x xs ys same) i))
same_average left right (exchanged x y xs) =
    (λ i. average_by (same_total (x ∷ (y ∷ xs)) (y ∷ (x ∷ xs)) (exchanged x y xs) i) (length (x ∷ (y ∷ xs))))
same_average left right (onward xs ys zs first second) = same_average xs ys first ∙ same_average ys zs second

-- ---- the least and the greatest

pub same_least : (terms others : List Term) → IsReordered terms others → least_of terms ≡ least_of others
same_least terms others same =
    reduce-reordered (ord_min term_order) (min_commutes term_order_total same_in_order) (min_turns term_order_total same_in_order)
    terms others same

pub same_greatest : (terms others : List Term) → IsReordered terms others → greatest_of terms ≡ greatest_of others
same_greatest terms others same =
    reduce-reordered (ord_max term_order) (max_commutes term_order_total same_in_order) (max_turns term_order_total same_in_order)
    terms others same

-- ---- all

same_of_numbers : (f : List Number → Option Number)
    → ((numbers others : List Number) → IsReordered numbers others → f numbers ≡ f others)
    → (values others : List (Option Term)) → IsReordered values others
    → numeral_result (option_and_then f (numbers_of values)) ≡ numeral_result (option_and_then f (numbers_of others))
same_of_numbers f alike values others same =
    ap numeral_result
    (given_all-reordered f alike (map (option_and_then number_of) values) (map (option_and_then number_of) others)
    (map-reordered (option_and_then number_of) values others same))

pub same_aggregate_of : (kind : Kind) (values others : List (Option Term)) → IsReordered values others
    → aggregate_of kind values ≡ aggregate_of kind others
same_aggregate_of Count values others same =
    ap (λ n. numeral_result (integer_result (pos n))) (count_by-reordered is_some values others same)
same_aggregate_of Sum values others same = same_of_numbers sum_of same_sum values others same
same_aggregate_of Avg values others same = same_of_numbers average_of same_average values others same
same_aggregate_of Min values others same = given_all-reordered least_of same_least values others same
same_aggregate_of Max values others same = given_all-reordered greatest_of same_greatest values others same

pub same_counted : (distinct : Bool) (values others : List (Option Term)) → IsSameMultiset (option_eq term_eq) values others
    → IsSameMultiset (option_eq term_eq) (counted_values distinct values) (counted_values distinct others)
same_counted true values others same = same-once (cell_decides term_same) values others same
same_counted false values others same = same

pub same_aggregate : (kind : Kind) (distinct : Bool) (values others : List (Option Term)) → IsSameMultiset (option_eq term_eq) values others
    → aggregate_of kind (counted_values distinct values) ≡ aggregate_of kind (counted_values distinct others)
same_aggregate kind distinct values others same =
    same_aggregate_of kind (counted_values distinct values) (counted_values distinct others)
    (reordered (cell_decides term_same) (counted_values distinct values) (counted_values distinct others)
    (same_counted distinct values others same))

same_value_over : (argument : Option Formula) (kind : Kind) (distinct : Bool) (rows others : List (Cells Term))
    → IsSameMultiset (row_eq term_eq) rows others
    → value_over argument kind distinct rows ≡ value_over argument kind distinct others
same_value_over None kind distinct rows others same =
    ap (λ n. numeral_result (integer_result (pos n))) (length-same (row_decides term_same) rows others same)
same_value_over (Some argument) kind distinct rows others same =
    same_aggregate kind distinct (map (value argument) rows) (map (value argument) others)
    (same-map (row_decides term_same) (option_eq term_eq) (value argument) rows others same)

pub same_aggregate_value : (aggregation : Aggregation) (rows others : List (Cells Term))
    → IsSameMultiset (row_eq term_eq) rows others
    → aggregate_value aggregation rows ≡ aggregate_value aggregation others
same_aggregate_value aggregation rows others same =
    same_value_over aggregation.argument aggregation.kind aggregation.distinct rows others same
