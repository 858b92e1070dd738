-- Terms whose values are of two kinds, or without a value on one side, are two terms.
use Rattle.std.specs.Prelude.{◌≡◌, Bool, true, false, Option, Some, None, is_some, refl}
use Rattle.std.proofs.Common.{ap, sym, ◌∙◌, true≢false}
use Rattle.rsp_terms.specs.declared.term.Term.{Term}
use Rattle.rsp_terms.specs.Same.{term_eq, term_same}
use Rattle.rsp_expr.specs.Comparing.{Comparable, number, string, boolean, comparable_of, value_equality}
use Rattle.rsp_expr.specs.Errors.{value_of_both}

of_one_kind : (v : Comparable) → is_some (value_equality v v) ≡ true
of_one_kind (number n) = refl
of_one_kind (string text) = refl
of_one_kind (boolean value) = refl

with_itself : (v : Option Comparable) → is_some v ≡ true → is_some (value_of_both value_equality v v) ≡ true
with_itself None some = absurd (true≢false (sym some))
with_itself (Some v) some = of_one_kind v

pub two_terms_left : (l r : Term) → is_some (comparable_of l) ≡ true
    → value_of_both value_equality (comparable_of l) (comparable_of r) ≡ None → term_eq l r ≡ false
two_terms_left l r some none = decided (term_eq l r) refl
  where
    decided : (b : Bool) → term_eq l r ≡ b → b ≡ false
    decided false h = refl
    decided true h =
        let same : l ≡ r = (term_same l r).0 h in
        absurd
        (true≢false
        (sym (with_itself (comparable_of l) some)
        ∙ (λ i. is_some (value_of_both value_equality (comparable_of l) (comparable_of (same i))))
        ∙ ap is_some none))

pub two_terms_right : (l r : Term) → is_some (comparable_of r) ≡ true
    → value_of_both value_equality (comparable_of l) (comparable_of r) ≡ None → term_eq l r ≡ false
two_terms_right l r some none = decided (term_eq l r) refl
  where
    decided : (b : Bool) → term_eq l r ≡ b → b ≡ false
    decided false h = refl
    decided true h =
        let same : r ≡ l = sym ((term_same l r).0 h) in
        absurd
        (true≢false
        (sym (with_itself (comparable_of r) some)
        ∙ (λ i. is_some (value_of_both value_equality (comparable_of (same i)) (comparable_of r)))
        ∙ ap is_some none))
