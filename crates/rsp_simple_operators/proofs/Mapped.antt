-- Rows made of rows one by one change by the rows made of the change's, with their counts.
use Rattle.std.proofs.Common.{◌≡◌, ◌≢◌, ◌≤◌, ℕ, zero, suc, Bool, true, false, Option, None, if◌then◌else◌, List, [], ◌∷◌, ℤ, pos, ◌+ℤ◌, ◌*ℤ◌, length, map, drop, refl, sym, ap, subst, ◌∙◌, arith, Decides}
use Rattle.std.specs.List.{AllByRecursion, range_with_len}
use Rattle.std.specs.Prelude.{IfSome}
use Rattle.std.proofs.lemmas.Int.{ints}
use Rattle.std.proofs.lemmas.List.{drop_all}
use Rattle.std.proofs.lemmas.List.FromFn.{length-map-range_with_len}
use Rattle.rsp_multiset.specs.Rows.{Cells, row_eq}
use Rattle.rsp_multiset.specs.RowSame.{row_decides}
use Rattle.rsp_multiset.specs.Shown.{shown_row, weight_shown, IsKnown}
use Rattle.rsp_multiset.specs.Variables.{row_by, cell, among, projection}
use Rattle.rsp_multiset.specs.Weights.{only, weight}
use Rattle.rsp_multiset.proofs.Shown.{times-only, shown_entries, total-shown_entries, weight-shown_entries, weight_shown-same, sum-changed_shown}
use Rattle.rsp_multiset.proofs.Sums.{sum_z-alike, sum_z-map}
use Rattle.rsp_terms.specs.declared.term.Term.{Term}
use Rattle.rsp_terms.specs.Same.{term_eq, term_same}
use Rattle.rsp_operators.specs.Laws.{Leads, ChangesFit}

module _ {V : Type 0} (eq : V → V → Bool) (made : Cells V → Cells V) where
  -- the next entry, as it is made
  pub made-next : (net after here rest : List (Cells V × ℤ)) (row new : Cells V) (n whole : ℤ) (q : Cells V) → here ≡ (row, n) ∷ rest → new ≡ made row
      → weight (row_eq eq) after q ≡ weight (row_eq eq) net q +ℤ only (row_eq eq q new) n
      → weight (row_eq eq) net q +ℤ weight_shown (row_eq eq) made here q ≡ whole → weight (row_eq eq) after q +ℤ weight_shown (row_eq eq) made rest q ≡ whole
  made-next net after here rest row new n whole q split is sum so_far =
      let first = ap (λ es. weight_shown (row_eq eq) made es q) split in
      let one = times-only n (row_eq eq q (made row)) in
      let same = ap (λ r. only (row_eq eq q r) n) is in
      omega (arith, ints, first, one, same, sum, so_far)

  pub made-end : (net change : List (Cells V × ℤ)) (i : ℕ) (whole : ℤ) (q : Cells V) → length change ≤ i → weight (row_eq eq) net q +ℤ weight_shown (row_eq eq) made (drop i change) q ≡ whole → weight (row_eq eq) net q ≡ whole
  made-end net change i whole q past so_far =
      let none = ap (λ es. weight_shown (row_eq eq) made es q) (drop_all i change past) in
      omega (arith, ints, none, so_far)

module _ {V : Type 0} {eq : V → V → Bool} (same : (x y : V) → Decides (eq x y) (x ≡ y)) (made : Cells V → Cells V) where
  -- what is weighed is made of some entry's row
  pub made-fits : (P : Cells V → Type 0) (es : List (Cells V × ℤ)) → AllByRecursion (λ (e : Cells V × ℤ). P (made e.0)) es → (row : Cells V) → weight_shown (row_eq eq) made es row ≢ pos 0 → P row
  made-fits P [] fit row some = absurd (some refl)
  made-fits P (e ∷ es) fit row some = by (row_eq eq row (made e.0)) refl some (made-fits P es fit.1 row)
    where
      by : (b : Bool) → row_eq eq row (made e.0) ≡ b → e.1 *ℤ only b (pos 1) +ℤ weight_shown (row_eq eq) made es row ≢ pos 0 → (weight_shown (row_eq eq) made es row ≢ pos 0 → P row) → P row
      by true is some rest = subst P (sym ((row_decides same row (made e.0)).0 is)) fit.0
      by false is some rest = rest (λ none. some (let nothing = times-only e.1 false in omega (arith, ints, none, nothing)))

  pub map-leads : (made' : Cells Term → Cells Term) (shown : V → Term) → ((row : Cells V) → shown_row shown (made row) ≡ made' (shown_row shown row)) → (before after : List (Cells Term)) (change net : List (Cells V × ℤ))
      → ((row : Cells V) → weight (row_eq eq) net row ≡ weight_shown (row_eq eq) made change row) → Leads shown before change after → Leads shown (map made' before) net (map made' after)
  map-leads made' shown alike before after change net sum leads q =
      let counted = λ (row : Cells Term). only (row_eq term_eq q row) (pos 1) in
      let entries = weight_shown-same (row_decides same) (row_eq term_eq) (shown_row shown) net (shown_entries made change) (λ row. sum row ∙ sym (weight-shown_entries made (row_eq eq) change row)) q in
      let parts = total-shown_entries made (λ row. counted (shown_row shown row)) change in
      let terms = sum_z-alike (λ (e : Cells V × ℤ). e.1 *ℤ counted (shown_row shown (made e.0))) (λ e. e.1 *ℤ counted (made' (shown_row shown e.0))) (λ e. ap (λ row. e.1 *ℤ counted row) (alike e.0)) change in
      let step = sum-changed_shown (row_decides term_same) (shown_row shown) (λ row. counted (made' row)) before after change leads in
      let first = sum_z-map counted made' before in
      let last = sum_z-map counted made' after in
      omega (arith, ints, entries, parts, terms, step, first, last)

-- ---- known rows, cut to some variables

module _ {V : Type 0} (knows : V → Type 0) where
  pub known-cell : (row : Cells V) (v : ℕ) → IsKnown knows row → IfSome (cell row v) knows
  known-cell [] v known = tt
  known-cell (value ∷ row) zero known = known.0
  known-cell (value ∷ row) (suc v) known = known-cell row v known.1

  pub known-row_by : (width : ℕ) (f : ℕ → Option V) → ((v : ℕ) → IfSome (f v) knows) → IsKnown knows (row_by width f)
  known-row_by width f known = over (range_with_len 0 width)
    where
      over : (vs : List ℕ) → IsKnown knows (map f vs)
      over [] = tt
      over (v ∷ vs) = (known v, over vs)

  kept_known : (keeps : Bool) (value : Option V) → IfSome value knows → IfSome (if keeps then value else None) knows
  kept_known true value known = known
  kept_known false value known = tt

  pub known-projection : (width : ℕ) (variables : List ℕ) (row : Cells V) → IsKnown knows row → IsKnown knows (projection width variables row)
  known-projection width variables row known = known-row_by width _ (λ v. kept_known (among variables v) (cell row v) (known-cell row v known))

pub row_by-long : {V : Type 0} (width : ℕ) (f : ℕ → Option V) → length (row_by width f) ≡ width
row_by-long width f = length-map-range_with_len f 0 width

pub projected-fit : {V : Type 0} (width : ℕ) (variables key : List ℕ) (knows : V → Type 0) (es : List (Cells V × ℤ)) → ChangesFit width key knows es
    → AllByRecursion (λ (e : Cells V × ℤ). (length (projection width variables e.0) ≡ width) × IsKnown knows (projection width variables e.0)) es
projected-fit width variables key knows [] fit = tt
projected-fit width variables key knows (e ∷ es) fit = ((row_by-long width _, known-projection knows width variables e.0 fit.0.1), projected-fit width variables key knows es fit.1)
