-- Definitions: the nodes of an algebra tree (SPARQL 1.1 Query, section 18.2), apart from how the code keeps them.
use Rattle.std.specs.Prelude.{ℕ, List, [], ◌∷◌, ◌++◌}
use Rattle.std.specs.List.{fold}
use Rattle.rsp_multiset.specs.Rows.{Cells}
use Rattle.rsp_terms.specs.declared.term.Term.{Term}
use Rattle.rsp_expr.specs.Formulas as formula
use Rattle.rsp_expr.specs.Formulas.{Formula, Formulas, no_formula, formula_then, Aggregation}
use Rattle.rsp_expr.specs.declared.slot.Slot.{Slot}
use Rattle.rsp_expr.specs.declared.slot.Slot.TheVariants.{Variable, Constant}
use Rattle.rsp_algebra.specs.declared.tree.Place.{Place}
use Rattle.rsp_algebra.specs.declared.tree.Place.TheVariants.{AnyNamed}
use Rattle.rsp_algebra.specs.declared.tree.TriplePattern.{TriplePattern}

-- what has one child, and what has two
pub data Single : Type 0 where
  filter : Formula → Single
  extend : ℕ → Formula → Single
  project : List ℕ → Single
  distinct : Single
  group : List ℕ → List (ℕ × Aggregation) → Single

pub data Double : Type 0 where
  join : Double
  left_join : Formula → Double
  union : Double
  minus : Double
  exists : Formula → Double
  not_exists : Formula → Double

pub data Node : Type 0 where
  unit : Node
  pattern : Place → TriplePattern → Node
  values : List (Cells Term) → Node
  over : Single → Node → Node
  of_two : Double → Node → Node → Node

-- the left-deep join of triple patterns at one place
abbrev pub left_deep : Place → List TriplePattern → Node
left_deep place [] = unit
left_deep place (first ∷ others) = fold (λ node triple. of_two join node (pattern place triple)) (pattern place first) others

-- the variables of a slot, and of a triple pattern
abbrev pub slot_variables : Slot → List ℕ
slot_variables (Variable v) = v ∷ []
slot_variables (Constant _) = []

abbrev pub triple_variables : TriplePattern → List ℕ
triple_variables triple =
    slot_variables triple.subject ++ (slot_variables triple.predicate ++ slot_variables triple.object)

-- the variable for the graph's name, if the place has one
abbrev pub place_variables : Place → List ℕ
place_variables (AnyNamed v) = v ∷ []
place_variables _ = []

-- the variables of a triple pattern at a place
abbrev pub pattern_variables : Place → TriplePattern → List ℕ
pattern_variables place triple = place_variables place ++ triple_variables triple

-- the variables of a formula
abbrev mutual
  pub formula_variables : Formula → List ℕ
  formula_variables (formula.variable v) = v ∷ []
  formula_variables (formula.constant _) = []
  formula_variables (formula.disjunction parts) = variables_of_all parts
  formula_variables (formula.conjunction parts) = variables_of_all parts
  formula_variables (formula.negation part) = formula_variables part
  formula_variables (formula.comparison _ left right) = formula_variables left ++ formula_variables right
  formula_variables (formula.membership _ item list) = formula_variables item ++ variables_of_all list
  formula_variables (formula.arithmetic _ left right) = formula_variables left ++ formula_variables right
  formula_variables (formula.opposite part) = formula_variables part
  formula_variables (formula.plus part) = formula_variables part
  formula_variables (formula.bound v) = v ∷ []
  formula_variables (formula.call _ arguments) = variables_of_all arguments

  pub variables_of_all : Formulas → List ℕ
  variables_of_all no_formula = []
  variables_of_all (formula_then first others) = formula_variables first ++ variables_of_all others
