-- Words of the way: the values of a node's parts, taken one by one.
use Rattle.std.specs.Prelude.{Bool, true, false, not, cond, Option, Some, None, List, [], ◌∷◌, map}
use Rattle.rsp_terms.specs.declared.term.Term.{Term}
use Rattle.rsp_expr.specs.Booleans.{truth_of, disjunction_of, conjunction_of}
use Rattle.rsp_expr.specs.Comparing.{equality}
use Rattle.rsp_expr.specs.Errors.{value_of_both}
use Rattle.rsp_expr.specs.Formulas.{formulas_in}
use Rattle.rsp_expr.specs.Meanings.{formula_of}
use Rattle.rsp_expr.specs.Values.{values}
use Rattle.rsp_expr.specs.declared.expression.Expression.{Expression}
use Rattle.rsp_multiset.specs.Rows.{Cells}
use Rattle.rsp_operands.specs.Operands.{term_for}
use Rattle.rsp_operands.specs.declared.operand.Operand.{Operand}

-- the values of expressions in a row
abbrev pub argument_values : List Expression → Cells Term → List (Option Term)
argument_values arguments row = values (formulas_in (map formula_of arguments)) row

-- two values, where neither is an error
abbrev pub both_values : Option Term → Option Term → Option (Term × Term)
both_values None right = None
both_values (Some left) None = None
both_values (Some left) (Some right) = Some (left, right)

abbrev pub terms_for : Option (Operand × Operand) → Option (Term × Term)
terms_for None = None
terms_for (Some both) = Some (term_for both.0, term_for both.1)

-- what they give, and what they give with a third
abbrev pub of_two : {A : Type 0} → (Term → Term → Option A) → Option (Term × Term) → Option A
of_two f None = None
of_two f (Some both) = f both.0 both.1

abbrev pub of_third : {A : Type 0} → (Term → Term → Term → Option A) → Option (Term × Term) → Option Term → Option A
of_third f None third = None
of_third f (Some both) None = None
of_third f (Some both) (Some third) = f both.0 both.1 third

-- `||` and `&&` of two parts, and of all, part by part
abbrev pub logical_or : Option Bool → Option Bool → Option Bool
logical_or (Some true) _ = Some true
logical_or _ (Some true) = Some true
logical_or (Some false) (Some false) = Some false
logical_or _ _ = None

abbrev pub logical_and : Option Bool → Option Bool → Option Bool
logical_and (Some false) _ = Some false
logical_and _ (Some false) = Some false
logical_and (Some true) (Some true) = Some true
logical_and _ _ = None

abbrev pub either_of : List (Option Bool) → Option Bool
either_of [] = Some false
either_of (part ∷ parts) = logical_or part (either_of parts)

abbrev pub all_of : List (Option Bool) → Option Bool
all_of [] = Some true
all_of (part ∷ parts) = logical_and part (all_of parts)

-- `||` or `&&`, by the value that decides it, and the same part by part
abbrev pub connective : Bool → List (Option Bool) → Option Bool
connective deciding parts = cond deciding (disjunction_of parts) (conjunction_of parts)

abbrev pub connected : Bool → List (Option Bool) → Option Bool
connected deciding parts = cond deciding (either_of parts) (all_of parts)

-- IN
abbrev pub membership_of : Option Term → List (Option Term) → Option Bool
membership_of item members = either_of (map (value_of_both equality item) members)

-- of two
abbrev pub connection : Bool → Option Bool → Option Bool → Option Bool
connection deciding first second = cond deciding (logical_or first second) (logical_and first second)

-- what the parts so far are worth where none decides: an error where one of them was one
abbrev pub undecided : Bool → Bool → Option Bool
undecided deciding erred = cond erred None (Some (not deciding))

-- IF: the part that isn't branch may be an error
abbrev pub branch : Option Bool → Option Term → Option Term → Option Term
branch None first second = None
branch (Some true) first second = first
branch (Some false) first second = second

abbrev pub if_value : List (Option Term) → Option Term
if_value (condition ∷ first ∷ second ∷ []) = branch (truth_of condition) first second
if_value arguments = None
