-- Words of the way: where a test of values decides identity, so does the test of rows of them.
use Rattle.std.specs.Prelude.{◌≡◌, Bool, Option, Some, None, is_some, unwrap_or, Decides, refl}
use Rattle.std.specs.Option.{option_eq}
use Rattle.std.specs.Cmp.Lexicographic.{pointwise_decides}
use Rattle.std.proofs.Common.{ap, sym, true≢false}
use Rattle.rsp_multiset.specs.Rows.{Cells, row_eq}

module _ {V : Type 0} {eq : V → V → Bool} (same : (x y : V) → Decides (eq x y) (x ≡ y)) where
  pub cell_decides : (a b : Option V) → Decides (option_eq eq a b) (a ≡ b)
  cell_decides None None = (λ _. refl, λ _. refl)
  cell_decides None (Some y) = (λ h. absurd (true≢false (sym h)), λ h. absurd (true≢false (sym (ap is_some h))))
  cell_decides (Some x) None = (λ h. absurd (true≢false (sym h)), λ h. absurd (true≢false (ap is_some h)))
  cell_decides (Some x) (Some y) = (λ h. ap Some ((same x y).0 h), λ h. (same x y).1 (ap (λ o. unwrap_or o x) h))

  pub row_decides : (a b : Cells V) → Decides (row_eq eq a b) (a ≡ b)
  row_decides = pointwise_decides cell_decides
