-- Words of the way: the code's values as the definitions have them, and how it goes over them.
use Rattle.std.specs.Prelude.{ℕ, Bool, cond, List, [], ◌∷◌, Option, None, Some, map, Vec}
use Rattle.std.specs.Bool.{then_some}
use Rattle.std.specs.List.{fold}
use Rattle.std.specs.Option.{option_map, option_or}
use Rattle.std.specs.Global.{Global}
use Rattle.std.specs.formers.vec.Vec.{mapped}
use Rattle.rsp_expr.specs.Formulas as formula
use Rattle.rsp_expr.specs.Formulas.{Formula, Formulas, no_formula, formula_then}
use Rattle.rsp_query.specs.declared.select.Element.{Element}
use Rattle.rsp_query.specs.Groups.{Part}
use Rattle.rsp_query.specs.Meanings.{part_of}

abbrev pub branches_of : List (Vec Element Global) → List (List Part)
branches_of branches = map (λ branch. branch.items) (map (mapped part_of) branches)

-- the first variable of a formula that passes
abbrev mutual
  pub first_in : (ℕ → Bool) → Formula → Option ℕ
  first_in p (formula.variable v) = cond (p v) (Some v) None
  first_in p (formula.constant _) = None
  first_in p (formula.disjunction parts) = first_among p parts
  first_in p (formula.conjunction parts) = first_among p parts
  first_in p (formula.negation part) = first_in p part
  first_in p (formula.comparison _ left right) = option_or (first_in p left) (first_in p right)
  first_in p (formula.membership _ item list) = option_or (first_in p item) (first_among p list)
  first_in p (formula.arithmetic _ left right) = option_or (first_in p left) (first_in p right)
  first_in p (formula.opposite part) = first_in p part
  first_in p (formula.plus part) = first_in p part
  first_in p (formula.bound v) = cond (p v) (Some v) None
  first_in p (formula.call _ arguments) = first_among p arguments

  pub first_among : (ℕ → Bool) → Formulas → Option ℕ
  first_among p no_formula = None
  first_among p (formula_then first others) = option_or (first_in p first) (first_among p others)
