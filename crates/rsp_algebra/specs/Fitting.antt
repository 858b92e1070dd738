-- Words of the way: that a tree fits a width, which the translation promises and an answer asks, and that this is known in
-- one way at most.
use Rattle.std.specs.Prelude.{◌≡◌, ℕ, ◌<◌, ⊤, Bool, true, false, Option, None, Some, List, [], length}
use Rattle.std.specs.Coded.{Coded-set, coded_ℕ, coded_bool, ×_prop, Unit-prop, le_prop}
use Rattle.std.specs.List.{AllByRecursion, AllByRecursion-prop}
use Rattle.rsp_multiset.specs.Rows.{Cells}
use Rattle.rsp_terms.specs.declared.term.Term.{Term}
use Rattle.rsp_expr.specs.Formulas.{Formula, Aggregation}
use Rattle.rsp_functions.specs.declared.aggregate.Kind.{Kind}
use Rattle.rsp_functions.specs.declared.aggregate.Kind.TheVariants.{Count}
use Rattle.rsp_algebra.specs.declared.tree.Translated.{Translated}
use Rattle.rsp_algebra.specs.Nodes as node
use Rattle.rsp_algebra.specs.Nodes.{Node, pattern_variables, formula_variables}
use Rattle.rsp_algebra.specs.Meanings.{node_of}

-- the variables of an aggregate's argument
abbrev pub argument_variables : Option Formula → List ℕ
argument_variables None = []
argument_variables (Some argument) = formula_variables argument

-- an aggregate without argument counts rows, each as often as it is there
abbrev pub has_form : Kind → Bool → Option Formula → Bool
has_form kind once (Some argument) = true
has_form Count false None = true
has_form kind once None = false

-- each place of a row that the tree names is below the width of rows, and each of its own rows has that width
abbrev pub AreBelow : ℕ → List ℕ → Type 0
AreBelow width variables = AllByRecursion (λ v. v < width) variables

abbrev pub AggregateFits : ℕ → ℕ × Aggregation → Type 0
AggregateFits width (variable, aggregation) =
    (variable < width)
    × (AreBelow width (argument_variables aggregation.argument)
    × (has_form aggregation.kind aggregation.distinct aggregation.argument ≡ true))

abbrev pub Fits : ℕ → Node → Type 0
Fits width node.unit = ⊤
Fits width (node.pattern place triple) = AreBelow width (pattern_variables place triple)
Fits width (node.of_two node.join left right) = Fits width left × Fits width right
Fits width (node.of_two (node.left_join condition) left right) =
    AreBelow width (formula_variables condition) × (Fits width left × Fits width right)
Fits width (node.of_two node.union left right) = Fits width left × Fits width right
Fits width (node.of_two node.minus left right) = Fits width left × Fits width right
Fits width (node.of_two (node.exists condition) left right) =
    AreBelow width (formula_variables condition) × (Fits width left × Fits width right)
Fits width (node.of_two (node.not_exists condition) left right) =
    AreBelow width (formula_variables condition) × (Fits width left × Fits width right)
Fits width (node.over (node.filter condition) child) = AreBelow width (formula_variables condition) × Fits width child
Fits width (node.over (node.extend v expression) child) =
    (v < width) × (AreBelow width (formula_variables expression) × Fits width child)
Fits width (node.values rows) = AllByRecursion (λ row. length row ≡ width) rows
Fits width (node.over (node.project variables) child) = AreBelow width variables × Fits width child
Fits width (node.over node.distinct child) = Fits width child
Fits width (node.over (node.group keys aggregates) child) =
    AreBelow width keys × (AllByRecursion (AggregateFits width) aggregates × Fits width child)

-- each place that a translated query names is below its width
pub record IsPlaced (query : Translated) : Type 0 where
  pub tree : Fits query.width (node_of query.tree)
  pub shown : AreBelow query.width query.shown

-- ---- it is known in one way at most

AreBelow-prop : (width : ℕ) (variables : List ℕ) → IsProp (AreBelow width variables)
AreBelow-prop width variables = AllByRecursion-prop (λ v. v < width) (λ v. le_prop) variables

AggregateFits-prop : (width : ℕ) (entry : ℕ × Aggregation) → IsProp (AggregateFits width entry)
AggregateFits-prop width (variable, aggregation) =
    ×_prop le_prop
    (×_prop (AreBelow-prop width (argument_variables aggregation.argument))
    (Coded-set coded_bool (has_form aggregation.kind aggregation.distinct aggregation.argument) true))

pub Fits-prop : (width : ℕ) (tree : Node) → IsProp (Fits width tree)
Fits-prop width node.unit = Unit-prop
Fits-prop width (node.pattern place triple) = AreBelow-prop width (pattern_variables place triple)
Fits-prop width (node.of_two node.join left right) = ×_prop (Fits-prop width left) (Fits-prop width right)
Fits-prop width (node.of_two (node.left_join condition) left right) =
    ×_prop (AreBelow-prop width (formula_variables condition)) (×_prop (Fits-prop width left) (Fits-prop width right))
Fits-prop width (node.of_two node.union left right) = ×_prop (Fits-prop width left) (Fits-prop width right)
Fits-prop width (node.of_two node.minus left right) = ×_prop (Fits-prop width left) (Fits-prop width right)
Fits-prop width (node.of_two (node.exists condition) left right) =
    ×_prop (AreBelow-prop width (formula_variables condition)) (×_prop (Fits-prop width left) (Fits-prop width right))
Fits-prop width (node.of_two (node.not_exists condition) left right) =
    ×_prop (AreBelow-prop width (formula_variables condition)) (×_prop (Fits-prop width left) (Fits-prop width right))
Fits-prop width (node.over (node.filter condition) child) =
    ×_prop (AreBelow-prop width (formula_variables condition)) (Fits-prop width child)
Fits-prop width (node.over (node.extend v formula) child) =
    ×_prop le_prop (×_prop (AreBelow-prop width (formula_variables formula)) (Fits-prop width child))
Fits-prop width (node.values rows) =
    AllByRecursion-prop (λ (row : Cells Term). length row ≡ width) (λ row. Coded-set coded_ℕ (length row) width) rows
Fits-prop width (node.over (node.project variables) child) = ×_prop (AreBelow-prop width variables) (Fits-prop width child)
Fits-prop width (node.over node.distinct child) = Fits-prop width child
Fits-prop width (node.over (node.group keys aggregates) child) =
    ×_prop (AreBelow-prop width keys)
    (×_prop (AllByRecursion-prop (AggregateFits width) (AggregateFits-prop width) aggregates) (Fits-prop width child))
