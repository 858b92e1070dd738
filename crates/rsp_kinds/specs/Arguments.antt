-- Words of the way: the value of an aggregate's argument in a row.
use Rattle.std.specs.Prelude.{◌≡◌, Option, None, Some, IfSome}
use Rattle.rsp_multiset.specs.Rows.{Cells}
use Rattle.rsp_terms.specs.declared.term.Term.{Term}
use Rattle.rsp_expr.specs.Formulas.{Formula}
use Rattle.rsp_expr.specs.Meanings.{formula_of}
use Rattle.rsp_expr.specs.Values.{value}
use Rattle.rsp_kinds.specs.declared.expressions.Argument.{Argument}
use Rattle.rsp_kinds.specs.declared.expressions.ByExpression.{ByExpression}

abbrev pub argument_value : Option ByExpression → Cells Term → Option Term
argument_value None row = None
argument_value (Some by) row = value (formula_of by.expression) row

-- where there is a formula, its value in every row
abbrev pub IsArgumentOf : Option Formula → Argument → Type 0
IsArgumentOf formula argument =
    IfSome formula (λ (f : Formula). (row : Cells Term) → argument_value argument.expression row ≡ value f row)
