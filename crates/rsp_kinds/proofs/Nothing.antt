-- No change, as the change from no row to no row.
use Rattle.std.proofs.Common.{◌≡◌, ℕ, Bool, List, [], ℤ, refl, sym, subst}
use Rattle.rsp_multiset.specs.Rows.{Cells}
use Rattle.rsp_terms.specs.declared.term.Term.{Term}
use Rattle.rsp_operators.specs.Laws.{Leads, AnswersFit}

module _ {V : Type 0} (net : List (Cells V × ℤ)) (none : net ≡ []) where
  pub nothing-fits : (eq : V → V → Bool) (width : ℕ) (knows : V → Type 0) → AnswersFit eq width knows net
  nothing-fits eq width knows = subst (AnswersFit eq width knows) (sym none) (λ row some. absurd (some refl))

  pub nothing-leads : (shown : V → Term) → Leads shown [] net []
  nothing-leads shown = subst (λ (change : List (Cells V × ℤ)). Leads shown [] change []) (sym none) (λ q. refl)
