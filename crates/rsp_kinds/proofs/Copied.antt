-- A copy of a change leads where it does, and fits as it does.
use Rattle.std.proofs.Common.{◌≡◌, ℕ, Bool, List, ℤ, ◌+ℤ◌, sym, ap, ◌∙◌, Decides}
use Rattle.rsp_multiset.specs.Rows.{Cells, row_eq}
use Rattle.rsp_multiset.specs.RowSame.{row_decides}
use Rattle.rsp_multiset.specs.Shown.{shown_row}
use Rattle.rsp_multiset.specs.Weights.{weight, times}
use Rattle.rsp_multiset.proofs.Shown.{weight_shown-same}
use Rattle.rsp_terms.specs.declared.term.Term.{Term}
use Rattle.rsp_terms.specs.Same.{term_eq}
use Rattle.rsp_operators.specs.Laws.{Leads, ChangesFit, AnswersFit}
use Rattle.rsp_simple_operators.proofs.Fitting.{change-fits, within-fits}

module _ {V : Type 0} {eq : V → V → Bool} (same : (x y : V) → Decides (eq x y) (x ≡ y)) (net change : List (Cells V × ℤ))
    (alike : (row : Cells V) → weight (row_eq eq) net row ≡ weight (row_eq eq) change row) where
  pub copy-leads : (shown : V → Term) (before after : List (Cells Term)) → Leads shown before change after → Leads shown before net after
  copy-leads shown before after leads q =
      leads q
      ∙ ap (λ n. times (row_eq term_eq) before q +ℤ n) (sym (weight_shown-same (row_decides same) (row_eq term_eq) (shown_row shown) net change alike q))

  pub copy-fits : (width : ℕ) (key : List ℕ) (knows : V → Type 0) → ChangesFit width key knows change → AnswersFit eq width knows net
  copy-fits width key knows fit = within-fits same width knows change net (change-fits same width key knows change fit) (λ row none. alike row ∙ none)
