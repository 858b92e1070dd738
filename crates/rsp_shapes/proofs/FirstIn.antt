-- The first variable of a formula that passes is the first of its variables that does.
use Rattle.std.proofs.Common.{◌≡◌, ◌∙◌, ℕ, Bool, List, [], ◌∷◌, ◌++◌, refl, sym, ap, cond, Option, Some, None}
use Rattle.std.specs.List.{find}
use Rattle.std.specs.Option.{option_or}
use Rattle.std.proofs.lemmas.List.Folds.{find-append}
use Rattle.rsp_expr.specs.Formulas as formula
use Rattle.rsp_expr.specs.Formulas.{Formula, Formulas, no_formula, formula_then}
use Rattle.rsp_algebra.specs.Nodes.{formula_variables, variables_of_all}
use Rattle.rsp_shapes.specs.Seeing.{first_in, first_among}

both : (p : ℕ → Bool) (xs ys : List ℕ) (a b : Option ℕ) → a ≡ find p xs → b ≡ find p ys → option_or a b ≡ find p (xs ++ ys)
both p xs ys a b first second = rw (first, second) (sym (find-append p xs ys))

mutual
  pub first_in_is : (p : ℕ → Bool) (f : Formula) → first_in p f ≡ find p (formula_variables f)
  first_in_is p (formula.variable v) = refl
  first_in_is p (formula.constant t) = refl
  first_in_is p (formula.disjunction parts) = first_among_is p parts
  first_in_is p (formula.conjunction parts) = first_among_is p parts
  first_in_is p (formula.negation part) = first_in_is p part
  first_in_is p (formula.comparison s left right) =
      both p (formula_variables left) (formula_variables right) _ _ (first_in_is p left) (first_in_is p right)
  first_in_is p (formula.membership negated item list) =
      both p (formula_variables item) (variables_of_all list) _ _ (first_in_is p item) (first_among_is p list)
  first_in_is p (formula.arithmetic s left right) =
      both p (formula_variables left) (formula_variables right) _ _ (first_in_is p left) (first_in_is p right)
  first_in_is p (formula.opposite part) = first_in_is p part
  first_in_is p (formula.plus part) = first_in_is p part
  first_in_is p (formula.bound v) = refl
  first_in_is p (formula.call f arguments) = first_among_is p arguments

  pub first_among_is : (p : ℕ → Bool) (fs : Formulas) → first_among p fs ≡ find p (variables_of_all fs)
  first_among_is p no_formula = refl
  first_among_is p (formula_then first others) =
      both p (formula_variables first) (variables_of_all others) _ _ (first_in_is p first) (first_among_is p others)
