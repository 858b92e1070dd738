-- What a change weighs is among its entries, so it fits as they do.
use Rattle.std.proofs.Common.{◌≡◌, ◌≢◌, ℕ, Bool, true, false, List, [], ◌∷◌, ℤ, pos, ◌+ℤ◌, length, refl, sym, ap, subst, ◌∙◌, arith, Decides}
use Rattle.std.specs.List.{AllByRecursion}
use Rattle.std.proofs.lemmas.Int.{ints}
use Rattle.rsp_multiset.specs.Rows.{Cells, row_eq}
use Rattle.rsp_multiset.specs.RowSame.{row_decides}
use Rattle.rsp_multiset.specs.Shown.{IsKnown}
use Rattle.rsp_multiset.specs.Weights.{only, weight}
use Rattle.rsp_operators.specs.Laws.{ChangesFit, AnswersFit}

module _ {V : Type 0} {eq : V → V → Bool} (same : (x y : V) → Decides (eq x y) (x ≡ y)) where
  pub change-fits : (width : ℕ) (key : List ℕ) (knows : V → Type 0) (es : List (Cells V × ℤ)) → ChangesFit width key knows es → AnswersFit eq width knows es
  change-fits width key knows [] fit row some = absurd (some refl)
  change-fits width key knows (e ∷ es) fit row some = by (row_eq eq row e.0) refl some (change-fits width key knows es fit.1 row)
    where
      by : (b : Bool) → row_eq eq row e.0 ≡ b → only b e.1 +ℤ weight (row_eq eq) es row ≢ pos 0
          → (weight (row_eq eq) es row ≢ pos 0 → (length row ≡ width) × IsKnown knows row) → (length row ≡ width) × IsKnown knows row
      by true is some rest =
          let here = (row_decides same row e.0).0 is in
          (ap length here ∙ fit.0.0.long, subst (IsKnown knows) (sym here) fit.0.1)
      by false is some rest = rest (λ none. some (omega (arith, ints, none)))

  -- an answer that holds only rows that some of its inputs hold
  pub within-fits : (width : ℕ) (knows : V → Type 0) (es net : List (Cells V × ℤ)) → AnswersFit eq width knows es
      → ((row : Cells V) → weight (row_eq eq) es row ≡ pos 0 → weight (row_eq eq) net row ≡ pos 0) → AnswersFit eq width knows net
  within-fits width knows es net fit within row some = fit row (λ none. some (within row none))

pub known_of : {V : Type 0} (width : ℕ) (key : List ℕ) (knows : V → Type 0) (es : List (Cells V × ℤ)) → ChangesFit width key knows es → AllByRecursion (λ (e : Cells V × ℤ). IsKnown knows e.0) es
known_of width key knows [] fit = tt
known_of width key knows (e ∷ es) fit = (fit.0.1, known_of width key knows es fit.1)
