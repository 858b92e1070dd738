-- Definitions: expressions as plain trees (SPARQL 1.1 Query, section 19.8, Expression), and aggregates over them.
use Rattle.std.specs.Prelude.{ℕ, Bool, List, [], ◌∷◌, Option}
use Rattle.rsp_terms.specs.declared.term.Term.{Term}
use Rattle.rsp_functions.specs.declared.function.Sign.{Sign}
use Rattle.rsp_functions.specs.declared.function.Function.{Function}
use Rattle.rsp_functions.specs.declared.aggregate.Kind.{Kind}

mutual
  pub data Formula : Type 0 where
    variable : ℕ → Formula
    constant : Term → Formula
    disjunction : Formulas → Formula
    conjunction : Formulas → Formula
    negation : Formula → Formula
    comparison : Sign → Formula → Formula → Formula
    membership : Bool → Formula → Formulas → Formula
    arithmetic : Sign → Formula → Formula → Formula
    opposite : Formula → Formula
    plus : Formula → Formula
    bound : ℕ → Formula
    call : Function → Formulas → Formula

  pub data Formulas : Type 0 where
    no_formula : Formulas
    formula_then : Formula → Formulas → Formulas

abbrev pub formulas_in : List Formula → Formulas
formulas_in [] = no_formula
formulas_in (formula ∷ others) = formula_then formula (formulas_in others)

-- an aggregate of the values of a formula; COUNT(*) has none
pub record Aggregation : Type 0 where
  pub kind : Kind
  pub distinct : Bool
  pub argument : Option Formula
