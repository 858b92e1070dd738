-- Words of the way: the key by which a term is compared, and that its order is that of terms.
use Rattle.std.specs.Prelude.{◌≡◌, ℕ, Bool, true, false, Option, Some, List, refl}
use Rattle.std.specs.Cmp.{IsEquivalence, IsPartialOrder, decided, po, tied_itself}
use Rattle.std.specs.Ordering.{is_eq}
use Rattle.std.specs.declared.cmp.Ordering.{Ordering}
use Rattle.std.specs.declared.cmp.Ordering.TheVariants.{Less, Equal, Greater}
use Rattle.std.proofs.Common.{ap, sym, ◌∙◌, true≢false}
use Rattle.rsp_number.specs.declared.number.Number.{Number}
use Rattle.rsp_terms.specs.declared.term.Term.{Term}
use Rattle.rsp_terms.specs.Same.{term_eq, term_same}
use Rattle.rsp_terms.specs.Terms.{term_text, HasShortNumber}
use Rattle.rsp_expr.specs.Forms.{number_of}
use Rattle.rsp_expr.specs.Order.{term_order, term_rank}
use Rattle.rsp_expr.proofs.TermOrder.{term_order_total, same_in_order}

-- what is kept beside a term is what it is compared by
pub record IsKeyOf (term : Term) (place : ℕ) (value : Option Number) (bytes : List ℕ) : Type 0 where
  pub rank : place ≡ term_rank term
  pub number : value ≡ number_of term
  pub text : bytes ≡ term_text term
  pub short : HasShortNumber term

pub terms_equal : IsEquivalence term_eq
terms_equal = decided term_eq term_same

unlike : (a b : Term) (test : Bool) (found : Ordering) → term_eq a b ≡ test → term_order a b ≡ found
    → (found ≡ Equal → ⊥) → term_eq a b ≡ false
unlike a b false found is order apart = is
unlike a b true found is order apart =
    absurd (apart (sym order ∙ ap (term_order a) (sym ((term_same a b).0 is)) ∙ tied_itself term_order_total a))

-- terms are equal exactly where neither stands before the other
pub terms_tied : (a b : Term) → term_eq a b ≡ is_eq (term_order a b)
terms_tied a b = by (term_order a b) refl
  where
    by : (found : Ordering) → term_order a b ≡ found → term_eq a b ≡ is_eq found
    by Less is = unlike a b (term_eq a b) Less refl is (λ h. cc)
    by Equal is = (term_same a b).1 (same_in_order a b is)
    by Greater is = unlike a b (term_eq a b) Greater refl is (λ h. cc)

pub terms_in_order : IsPartialOrder term_eq (λ a b. Some (term_order a b))
terms_in_order = po term_order_total terms_tied
