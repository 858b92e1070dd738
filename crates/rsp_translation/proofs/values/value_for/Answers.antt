use Rattle.std.proofs.Common.{◌≡◌, ℕ, false, nat_lt, List, [], ◌∷◌, Option, None, length, drop, refl, sym, ◌∙◌, arith}
use Rattle.std.proofs.lemmas.Bool.Decides.{nat_tests}
use Rattle.std.proofs.lemmas.List.{at_drop_all}
use Rattle.rsp_terms.specs.declared.term.Term.{Term}
use Rattle.rsp_translation.specs.Trees as trees
use Rattle.rsp_translation.proofs.values.value_for.Goals as goal

no_cell : (variables : List ℕ) (v : ℕ) → trees.value_for variables [] v ≡ None
no_cell [] v = refl
no_cell (variable ∷ others) v = refl

missing : (variables : List ℕ) (cells : List (Option Term)) (i v : ℕ) → false ≡ nat_lt i (length cells) → trees.value_for (drop i variables) (drop i cells) v ≡ None
missing variables cells i v past =
    at_drop_all (λ (left : List (Option Term)). trees.value_for (drop i variables) left v) cells i (grind (arith, nat_tests, past))
    ∙ no_cell (drop i variables) v

pub returns-in_default : goal.returns-in_default
returns-in_default c =
    sym (missing c.args.variables.now c.args.cells.now c.loop-index.index c.args.variable c.in_default.ensures.lookup.0)
    ∙ c.loop-index.invariant
