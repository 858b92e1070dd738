-- The union of two inputs changes by both changes.
use Rattle.std.proofs.Common.{◌≡◌, ◌≢◌, ℕ, zero, suc, Bool, List, ◌++◌, ℤ, pos, negsuc, ◌+ℤ◌, length, refl, arith, Decides}
use Rattle.std.proofs.lemmas.Int.{ints}
use Rattle.rsp_multiset.specs.Rows.{Cells, row_eq}
use Rattle.rsp_multiset.specs.RowSame.{row_decides}
use Rattle.rsp_multiset.specs.Shown.{shown_row, IsKnown}
use Rattle.rsp_multiset.specs.Weights.{weight}
use Rattle.rsp_multiset.proofs.Changing.{times-append}
use Rattle.rsp_multiset.proofs.Shown.{weight_shown-joined}
use Rattle.rsp_terms.specs.declared.term.Term.{Term}
use Rattle.rsp_terms.specs.Same.{term_eq}
use Rattle.rsp_operators.specs.Laws.{Leads, ChangesFit, AnswersFit}
use Rattle.rsp_simple_operators.proofs.Fitting.{change-fits}

module _ {V : Type 0} {eq : V → V → Bool} (same : (x y : V) → Decides (eq x y) (x ≡ y)) (net left right : List (Cells V × ℤ))
    (sum : (row : Cells V) → weight (row_eq eq) net row ≡ weight (row_eq eq) left row +ℤ weight (row_eq eq) right row) where
  pub union-leads : (shown : V → Term) (lefts lefts' rights rights' : List (Cells Term)) → Leads shown lefts left lefts' → Leads shown rights right rights' → Leads shown (lefts ++ rights) net (lefts' ++ rights')
  union-leads shown lefts lefts' rights rights' first second q =
      let joined = weight_shown-joined (row_decides same) (row_eq term_eq) (shown_row shown) net left right sum q in
      let before = times-append (row_eq term_eq) lefts rights q in
      let after = times-append (row_eq term_eq) lefts' rights' q in
      let one = first q in
      let other = second q in
      omega (arith, ints)

  pub union-fits : (width : ℕ) (key : List ℕ) (knows : V → Type 0) → ChangesFit width key knows left → ChangesFit width key knows right → AnswersFit eq width knows net
  union-fits width key knows first second row some = by (weight (row_eq eq) left row) refl
    where
      others : weight (row_eq eq) left row ≡ pos 0 → weight (row_eq eq) right row ≢ pos 0
      others none nothing = some (let whole = sum row in omega (arith, ints))

      by : (n : ℤ) → weight (row_eq eq) left row ≡ n → (length row ≡ width) × IsKnown knows row
      by (pos zero) is = change-fits same width key knows right second row (others is)
      by (pos (suc n)) is = change-fits same width key knows left first row (λ none. let never : ⊥ = omega (arith, ints) in never)
      by (negsuc n) is = change-fits same width key knows left first row (λ none. let never : ⊥ = omega (arith, ints) in never)
