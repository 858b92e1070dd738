use Rattle.std.proofs.Common.{◌≡◌, ℕ, IfOk, length, rules, subst}
use Rattle.rsp_numbering.specs.declared.variable.Variable.TheVariants.{Bracket}
use Rattle.rsp_numbering.specs.Same.{place_of}
use Rattle.rsp_numbering.proofs.Newness.{bracket_is_new}
use Rattle.rsp_numbering.proofs.before.Before.bracket.Goals as goal

pub returns-clause-is_new : goal.returns-clause-is_new
returns-clause-is_new c =
    rw (← c.self.view_is)
    (let P : ℕ → Type 0 = λ m. IfOk c.number_of.result (λ n. n ≡ m) in
    let here : IfOk c.number_of.result (λ n. n ≡ place_of c.self.inside.variables.keys (Bracket (length c.self.inside.variables.keys))) = search rules in
    subst P (bracket_is_new c.self.inside.variables.keys c.self.invariant) here)
