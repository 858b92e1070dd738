-- Definitions: aggregates (SPARQL 1.1 Query, section 18.5.1), of the list of the argument's values in the rows of a group.
-- None is an error. How often a value stands in the list matters, and its place doesn't.
use Rattle.std.specs.Prelude.{pos, Bool, if◌then◌else◌, Option, Some, None, is_some, List, [], ◌∷◌, map, length}
use Rattle.std.specs.List.{count_by, fold, reduce}
use Rattle.std.specs.Option.{option_and_then, option_eq}
use Rattle.std.specs.Ordering.{ord_min, ord_max}
use Rattle.rsp_multiset.specs.Rows.{Cells}
use Rattle.rsp_multiset.specs.RowLists.{each_once}
use Rattle.rsp_number.specs.Numbers.{integer_result, quotient}
use Rattle.rsp_number.specs.Tallies.{Tally}
use Rattle.rsp_number.specs.Totals.{empty_tally, after_taking, value_of_total}
use Rattle.rsp_number.specs.declared.number.Number.{Number}
use Rattle.rsp_number.specs.declared.number.Number.TheVariants.{Integer}
use Rattle.rsp_terms.specs.declared.term.Term.{Term}
use Rattle.rsp_terms.specs.Same.{term_eq}
use Rattle.rsp_expr.specs.Forms.{number_of}
use Rattle.rsp_expr.specs.Errors.{value_of_both, all_values}
use Rattle.rsp_expr.specs.Formulas.{Formula, Aggregation}
use Rattle.rsp_expr.specs.Functions.{numeral_result}
use Rattle.rsp_expr.specs.Order.{term_order}
use Rattle.rsp_expr.specs.Values.{value}
use Rattle.rsp_functions.specs.declared.aggregate.Kind.{Kind}
use Rattle.rsp_functions.specs.declared.aggregate.Kind.TheVariants.{Count, Sum, Avg, Min, Max}

-- under DISTINCT each term counts once, and an error stays an error
abbrev pub counted_values : Bool → List (Option Term) → List (Option Term)
counted_values distinct values = if distinct then each_once (option_eq term_eq) values else values

-- the numbers of the values; an error where a value is one, or has no number
abbrev pub numbers_of : List (Option Term) → Option (List Number)
numbers_of values = all_values (map (option_and_then number_of) values)

-- the numbers taken into a total
abbrev pub total_of : List Number → Tally
total_of numbers = fold (λ tally number. after_taking tally number 1) empty_tally numbers

-- of no numbers the integer 0
abbrev pub sum_of : List Number → Option Number
sum_of numbers = value_of_total (total_of numbers)

-- the sum divided by how many there are; of none the integer 0
abbrev pub average_of : List Number → Option Number
average_of [] = Some (Integer (pos 0))
average_of (number ∷ numbers) =
    value_of_both quotient (sum_of (number ∷ numbers)) (integer_result (pos (length (number ∷ numbers))))

-- of no terms an error
abbrev pub least_of : List Term → Option Term
least_of terms = reduce (ord_min term_order) terms

abbrev pub greatest_of : List Term → Option Term
greatest_of terms = reduce (ord_max term_order) terms

abbrev pub aggregate_of : Kind → List (Option Term) → Option Term
aggregate_of Count values = numeral_result (integer_result (pos (count_by is_some values)))
aggregate_of Sum values = numeral_result (option_and_then sum_of (numbers_of values))
aggregate_of Avg values = numeral_result (option_and_then average_of (numbers_of values))
aggregate_of Min values = option_and_then least_of (all_values values)
aggregate_of Max values = option_and_then greatest_of (all_values values)

-- COUNT(*) counts the rows
abbrev pub value_over : Option Formula → Kind → Bool → List (Cells Term) → Option Term
value_over None kind distinct rows = numeral_result (integer_result (pos (length rows)))
value_over (Some argument) kind distinct rows = aggregate_of kind (counted_values distinct (map (value argument) rows))

-- the value of an aggregate in a group of rows
abbrev pub aggregate_value : Aggregation → List (Cells Term) → Option Term
aggregate_value aggregation rows = value_over aggregation.argument aggregation.kind aggregation.distinct rows
