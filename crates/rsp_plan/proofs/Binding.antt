-- The rows of a change bind what all rows before and after it bind.
use Rattle.std.proofs.Common.{◌≡◌, ◌≢◌, ℕ, zero, suc, Bool, true, false, Option, None, Some, IsSome, List, [], ◌∷◌, ℤ, pos, negsuc, ◌+ℤ◌, refl, sym, ap, subst, ◌∙◌, arith, Decides}
use Rattle.std.specs.Cmp.{decided}
use Rattle.std.specs.List.{AllByRecursion}
use Rattle.std.specs.Option.{option_map}
use Rattle.std.proofs.lemmas.Int.{ints}
use Rattle.std.proofs.lemmas.List.Elements.{recursion_from_All}
use Rattle.rsp_multiset.specs.Rows.{Cells, row_eq}
use Rattle.rsp_multiset.specs.RowSame.{row_decides}
use Rattle.rsp_multiset.specs.Shown.{shown_row, IsKnown, AreToldApart}
use Rattle.rsp_multiset.specs.Variables.{cell}
use Rattle.rsp_multiset.specs.Weights.{only, weight, times, AreChanges}
use Rattle.rsp_multiset.proofs.Shown.{AreKnown, cell-shown, weight-known}
use Rattle.rsp_terms.specs.declared.term.Term.{Term}
use Rattle.rsp_terms.specs.Same.{term_eq, term_same}
use Rattle.rsp_operators.specs.Laws.{Fits, Leads, ChangesFit, AllFit, AnswersFit}
use Rattle.rsp_simple_operators.proofs.Crossed.{entries-have}

-- what all rows have, a row has that is among them
times-has : (P : Cells Term → Type 0) (rows : List (Cells Term)) (q : Cells Term) → AllByRecursion P rows → times (row_eq term_eq) rows q ≢ pos 0 → P q
times-has P [] q all some = absurd (some refl)
times-has P (row ∷ rows) q all some = by (row_eq term_eq q row) refl some (times-has P rows q all.1)
  where
    by : (b : Bool) → row_eq term_eq q row ≡ b → only b (pos 1) +ℤ times (row_eq term_eq) rows q ≢ pos 0 → (times (row_eq term_eq) rows q ≢ pos 0 → P q) → P q
    by true is some others = subst P (sym ((row_decides term_same q row).0 is)) all.0
    by false is some others = others (λ none. some (omega (arith, ints, none)))

some-of : {V : Type 0} (shown : V → Term) (value : Option V) → IsSome (option_map shown value) → IsSome value
some-of shown None some = some
some-of shown (Some x) some = some

module _ {V : Type 0} {eq : V → V → Bool} (same : (x y : V) → Decides (eq x y) (x ≡ y)) (knows : V → Type 0) (shown : V → Term) (apart : AreToldApart knows shown)
    (width : ℕ) (key : List ℕ) where
  bound-shown : (row : Cells V) (key : List ℕ) → AllByRecursion (λ v. IsSome (cell (shown_row shown row) v)) key → AllByRecursion (λ v. IsSome (cell row v)) key
  bound-shown row [] bound = tt
  bound-shown row (v ∷ key) bound = (some-of shown (cell row v) (subst IsSome (cell-shown shown row v) bound.0), bound-shown row key bound.1)

  module _ (befores afters : List (Cells Term)) (change : List (Cells V × ℤ)) (entries : AreChanges (row_eq eq) change) (fit : AnswersFit eq width knows change)
      (leads : Leads shown befores change afters) (before_fit : AllFit width key befores) (after_fit : AllFit width key afters) where
    each : (P : Cells V → Type 0) → ((row : Cells V) → weight (row_eq eq) change row ≢ pos 0 → P row) → AllByRecursion (λ (e : Cells V × ℤ). P e.0) change
    each P have =
        entries-have (decided (row_eq eq) (row_decides same)) P change entries.distinct (recursion_from_All (λ (e : Cells V × ℤ). e.1 ≢ pos 0) change entries.counted) have

    known : AreKnown (IsKnown knows) change
    known = each (IsKnown knows) (λ row some. (fit row some).1)

    shown-fits : (row : Cells V) → weight (row_eq eq) change row ≢ pos 0 → Fits width key (shown_row shown row)
    shown-fits row some = by (times (row_eq term_eq) befores (shown_row shown row)) refl
      where
        q : Cells Term
        q = shown_row shown row

        changed : times (row_eq term_eq) afters q ≡ times (row_eq term_eq) befores q +ℤ weight (row_eq eq) change row
        changed = leads q ∙ ap (λ n. times (row_eq term_eq) befores q +ℤ n) (weight-known same term_same {knows = knows} apart change row known (fit row some).1)

        by : (n : ℤ) → times (row_eq term_eq) befores q ≡ n → Fits width key q
        by (pos zero) none = times-has (Fits width key) afters q after_fit (λ gone. some (let sum = changed in omega (arith, ints, sum, none, gone)))
        by (pos (suc n)) is = times-has (Fits width key) befores q before_fit (λ none. let never : ⊥ = omega (arith, ints, is, none) in never)
        by (negsuc n) is = times-has (Fits width key) befores q before_fit (λ none. let never : ⊥ = omega (arith, ints, is, none) in never)

    pub change-binds : ChangesFit width key knows change
    change-binds =
        each (λ (row : Cells V). Fits width key row × IsKnown knows row)
        (λ row some. (record { long = (fit row some).0; bound = bound-shown row key (shown-fits row some).bound }, (fit row some).1))
