-- The rows on which a test holds change by the entries whose rows pass it.
use Rattle.std.proofs.Common.{◌≡◌, ◌≤◌, Bool, true, false, List, [], ◌∷◌, ℤ, pos, ◌+ℤ◌, ◌*ℤ◌, length, map, filter, drop, ℕ, refl, sym, ap, ◌∙◌, arith, Decides}
use Rattle.std.specs.Cmp.{IsEquivalence}
use Rattle.std.specs.List.{IsDistinct}
use Rattle.std.specs.Map.{keys_of}
use Rattle.std.proofs.lemmas.Int.{ints}
use Rattle.std.proofs.lemmas.List.{drop_all}
use Rattle.std.proofs.Math.IntN.{zero-*ℤ, *ℤ-zero}
use Rattle.rsp_multiset.specs.Rows.{Cells, row_eq}
use Rattle.rsp_multiset.specs.RowSame.{row_decides}
use Rattle.rsp_multiset.specs.Shown.{shown_row}
use Rattle.rsp_multiset.specs.Weights.{only, weight, total}
use Rattle.rsp_multiset.proofs.Shown.{weight_shown-same, sum-changed_shown}
use Rattle.rsp_multiset.proofs.Distincts.{weight-made}
use Rattle.rsp_multiset.proofs.Sums.{sum_z-filter}
use Rattle.rsp_terms.specs.declared.term.Term.{Term}
use Rattle.rsp_terms.specs.Same.{term_eq, term_same}
use Rattle.rsp_operators.specs.Laws.{Leads}

only-of : (t b : Bool) (n : ℤ) → only t n *ℤ only b (pos 1) ≡ n *ℤ only t (only b (pos 1))
only-of true b n = refl
only-of false b n = zero-*ℤ (only b (pos 1)) ∙ sym (*ℤ-zero n)

module _ {V : Type 0} {eq : V → V → Bool} (same : (x y : V) → Decides (eq x y) (x ≡ y)) (passes : Cells V → Bool) where
  at_row : (q row : Cells V) (n : ℤ) → only (passes row) (only (row_eq eq q row) n) ≡ only (passes q) (only (row_eq eq q row) n)
  at_row q row n = by (row_eq eq q row) refl
    where
      nothing : (t : Bool) → only t (only false n) ≡ pos 0
      nothing true = refl
      nothing false = refl

      by : (b : Bool) → row_eq eq q row ≡ b → only (passes row) (only b n) ≡ only (passes q) (only b n)
      by true is = ap (λ x. only (passes x) (only true n)) (sym ((row_decides same q row).0 is))
      by false is = nothing (passes row) ∙ sym (nothing (passes q))

  only-plus : (t : Bool) (n m : ℤ) → only t (n +ℤ m) ≡ only t n +ℤ only t m
  only-plus true n m = refl
  only-plus false n m = refl

  -- the next entry, kept where it passes
  pub kept-next : (net after here rest : List (Cells V × ℤ)) (row : Cells V) (n : ℤ) (wanted : Bool) (whole : ℤ) (q : Cells V) → here ≡ (row, n) ∷ rest → wanted ≡ passes row
      → weight (row_eq eq) after q ≡ weight (row_eq eq) net q +ℤ only wanted (only (row_eq eq q row) n)
      → weight (row_eq eq) net q +ℤ only (passes q) (weight (row_eq eq) here q) ≡ whole → weight (row_eq eq) after q +ℤ only (passes q) (weight (row_eq eq) rest q) ≡ whole
  kept-next net after here rest row n wanted whole q split is made so_far =
      let first = ap (λ es. only (passes q) (weight (row_eq eq) es q)) split ∙ only-plus (passes q) (only (row_eq eq q row) n) (weight (row_eq eq) rest q) in
      let one = ap (λ t. only t (only (row_eq eq q row) n)) is ∙ at_row q row n in
      omega (arith, ints, first, one, made, so_far)

  pub kept-end : (net change : List (Cells V × ℤ)) (i : ℕ) (whole : ℤ) (q : Cells V) → length change ≤ i → weight (row_eq eq) net q +ℤ only (passes q) (weight (row_eq eq) (drop i change) q) ≡ whole → weight (row_eq eq) net q ≡ whole
  kept-end net change i whole q past so_far =
      let none = ap (λ es. only (passes q) (weight (row_eq eq) es q)) (drop_all i change past) ∙ zero_kept (passes q) in
      omega (arith, ints, none, so_far)
    where
      zero_kept : (t : Bool) → only t (pos 0) ≡ pos 0
      zero_kept true = refl
      zero_kept false = refl

  pub kept-nothing : (t : Bool) (n : ℤ) → n ≡ pos 0 → only t n ≡ pos 0
  kept-nothing true n none = none
  kept-nothing false n none = refl

module _ {V : Type 0} {eq : V → V → Bool} (laws : IsEquivalence (row_eq eq)) (same : (x y : V) → Decides (eq x y) (x ≡ y)) (shown : V → Term) (test : Cells Term → Bool) where
  abbrev passing : List (Cells V × ℤ) → List (Cells V × ℤ)
  passing es = map {B = Cells V × ℤ} (λ e. (e.0, only (test (shown_row shown e.0)) e.1)) es

  passing-total : (f : Cells V → Bool) (es : List (Cells V × ℤ)) → total (λ x. only (f x) (pos 1)) (passing es) ≡ total (λ x. only (test (shown_row shown x)) (only (f x) (pos 1))) es
  passing-total f [] = refl
  passing-total f (e ∷ es) = (λ i. only-of (test (shown_row shown e.0)) (f e.0) e.1 i +ℤ passing-total f es i)

  none : (t : Bool) → only t (pos 0) ≡ pos 0
  none true = refl
  none false = refl

  pub filter-leads : (before after : List (Cells Term)) (change net : List (Cells V × ℤ)) → IsDistinct (row_eq eq) (keys_of change)
      → ((row : Cells V) → weight (row_eq eq) net row ≡ only (test (shown_row shown row)) (weight (row_eq eq) change row))
      → Leads shown before change after → Leads shown (filter test before) net (filter test after)
  filter-leads before after change net d made leads q =
      let counted = λ (row : Cells Term). only (test row) (only (row_eq term_eq q row) (pos 1)) in
      let passes : ((row : Cells V) → weight (row_eq eq) net row ≡ weight (row_eq eq) (passing change) row) =
      λ row. made row ∙ sym (weight-made laws (row_decides same) (λ x n. only (test (shown_row shown x)) n) (λ x. none (test (shown_row shown x))) change d row) in
      let whole = weight_shown-same (row_decides same) (row_eq term_eq) (shown_row shown) net (passing change) passes q in
      let parts = passing-total (λ x. row_eq term_eq q (shown_row shown x)) change in
      let step = sum-changed_shown (row_decides term_same) (shown_row shown) counted before after change leads in
      let first = sum_z-filter (λ row. only (row_eq term_eq q row) (pos 1)) test before in
      let last = sum_z-filter (λ row. only (row_eq term_eq q row) (pos 1)) test after in
      omega (arith, ints, whole, parts, step, first, last)
