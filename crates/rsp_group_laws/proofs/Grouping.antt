-- Groups whose aggregates are alike.
use Rattle.std.proofs.Common.{◌≡◌, ℕ, suc, Bool, true, false, List, [], ◌∷◌, length, map, refl, sym, ap, ◌∙◌}
use Rattle.std.specs.Prelude.{Option, Some, None, pos, is_some, not}
use Rattle.std.specs.List.{AllZip, fold}
use Rattle.rsp_aggregates.specs.Folds.{asked_aggregate}
use Rattle.rsp_expr.specs.Aggregates.{aggregate_of, counted_values, aggregate_value, value_over}
use Rattle.rsp_expr.specs.Formulas.{Formula, Aggregation}
use Rattle.rsp_expr.specs.Functions.{numeral_result}
use Rattle.rsp_expr.specs.Groups.{group_of, group_keys, with_values, grouped_by}
use Rattle.rsp_expr.specs.Values.{value}
use Rattle.rsp_functions.specs.declared.aggregate.Kind.{Kind}
use Rattle.rsp_groups.specs.Values.{by_variable}
use Rattle.rsp_multiset.specs.Rows.{Cells}
use Rattle.rsp_multiset.specs.Variables.{extension}
use Rattle.rsp_number.specs.Numbers.{integer_result}
use Rattle.rsp_terms.specs.declared.term.Term.{Term}
use Rattle.rsp_group_laws.specs.Alike.{IsArgument, IsAggregate}

length-map : {A B : Type 0} (f : A → B) (xs : List A) → length (map f xs) ≡ length xs
length-map f [] = refl
length-map f (x ∷ xs) = ap suc (length-map f xs)

map-alike : {A B : Type 0} (f g : A → B) → ((x : A) → f x ≡ g x) → (xs : List A) → map f xs ≡ map g xs
map-alike f g alike [] = refl
map-alike f g alike (x ∷ xs) = λ i. alike x i ∷ map-alike f g alike xs i

pub asked-over : (of : Cells Term → Option Term) (argument : Option Formula) (kind : Kind) (distinct : Bool) (group : List (Cells Term))
    → IsArgument of (record { argument = argument; kind = kind; distinct = distinct })
    → asked_aggregate kind distinct (not (is_some argument)) (map of group) ≡ value_over argument kind distinct group
asked-over of None kind distinct group is = ap (λ n. numeral_result (integer_result (pos n))) (length-map of group)
asked-over of (Some formula) kind distinct group is =
    ap (λ values. aggregate_of kind (counted_values distinct values)) (map-alike of (value formula) is group)

module _ {A : Type 0} (variable : A → ℕ) (valued : A → List (Cells Term) → Option Term) (width : ℕ) where
  row-alike : (aggregates : List A) (others : List (ℕ × Aggregation)) (group : List (Cells Term)) (row : Cells Term)
      → AllZip (λ a aggregate. IsAggregate (variable a) (valued a) aggregate) aggregates others
      → with_values valued width (by_variable variable aggregates) group row ≡ with_values aggregate_value width others group row
  row-alike [] [] group row alike = refl
  row-alike [] (other ∷ others) group row alike = absurd alike
  row-alike (a ∷ aggregates) [] group row alike = absurd alike
  row-alike (a ∷ aggregates) (other ∷ others) group row alike =
      row-alike aggregates others group (extension width (variable a) (valued a group) row) alike.1
      ∙ (λ i. with_values aggregate_value width others group (extension width (alike.0.place i) (alike.0.is group i) row))

  pub grouped-alike : (keys : List ℕ) (aggregates : List A) (others : List (ℕ × Aggregation)) (rows : List (Cells Term))
      → AllZip (λ a aggregate. IsAggregate (variable a) (valued a) aggregate) aggregates others
      → grouped_by valued width keys (by_variable variable aggregates) rows ≡ grouped_by aggregate_value width keys others rows
  grouped-alike keys aggregates others rows alike =
      map-alike _ _ (λ key. row-alike aggregates others (group_of width keys rows key) key alike) (group_keys width keys rows)
