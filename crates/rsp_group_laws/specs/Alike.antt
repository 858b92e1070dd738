-- Words of the way: what is computed in each row, and over each group, is what the algebra says.
use Rattle.std.specs.Prelude.{◌≡◌, ℕ, List, Option, IfSome}
use Rattle.rsp_expr.specs.Aggregates.{aggregate_value}
use Rattle.rsp_expr.specs.Formulas.{Formula, Aggregation}
use Rattle.rsp_expr.specs.Values.{value}
use Rattle.rsp_multiset.specs.Rows.{Cells}
use Rattle.rsp_terms.specs.declared.term.Term.{Term}

-- the value of the aggregate's argument, where it has one
abbrev pub IsArgument : (Cells Term → Option Term) → Aggregation → Type 0
IsArgument of aggregation = IfSome aggregation.argument (λ (formula : Formula). (row : Cells Term) → of row ≡ value formula row)

-- the variable and, over every group, the value
pub record IsAggregate (variable : ℕ) (valued : List (Cells Term) → Option Term) (aggregate : ℕ × Aggregation) : Type 0 where
  pub place : variable ≡ aggregate.0
  pub is : (group : List (Cells Term)) → valued group ≡ aggregate_value aggregate.1 group
