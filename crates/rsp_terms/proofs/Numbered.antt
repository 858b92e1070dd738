-- Texts of different numbers are different.
use Rattle.std.proofs.Common.{◌≡◌, ℕ, Bool, true, false, nat_eq, List, refl, sym, ap, ◌∙◌, true≢false}
use Rattle.std.specs.Cmp.Lexicographic.{bytes_decides, pointwise}
use Rattle.rsp_terms.specs.TextNumbers.{text_number}

pub numbers-differ : (a b : List ℕ) → (text_number a ≡ text_number b → ⊥) → pointwise nat_eq a b ≡ false
numbers-differ a b differ = by (pointwise nat_eq a b) refl
  where
    by : (same : Bool) → pointwise nat_eq a b ≡ same → same ≡ false
    by true is = absurd (differ (ap text_number ((bytes_decides a b).0 is)))
    by false is = refl
