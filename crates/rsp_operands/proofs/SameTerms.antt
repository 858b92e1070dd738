-- One term and the values that it is made of.
use Rattle.std.specs.Prelude.{◌≡◌, ℕ, ℤ, Bool, true, false, ◌&&◌, Option, Some, unwrap_or, Decides, refl}
use Rattle.std.proofs.Common.{ap, sym, ◌∙◌, true≢false}
use Rattle.std.proofs.lemmas.Bool.Decides.{same_from_decides, Decides-eqb, Decides-int_eq}
use Rattle.rsp_number.specs.declared.number.Number.{Number}
use Rattle.rsp_number.specs.declared.number.Number.TheVariants.{Integer, Decimal}
use Rattle.rsp_number.specs.contracts.number.NumberPartialEq.TheImpl.{ghosts as number}
use Rattle.rsp_terms.specs.declared.term.Term.{Term}
use Rattle.rsp_terms.specs.Same.{term_eq, term_same}
use Rattle.rsp_expr.specs.Forms.{number_of}
use Rattle.rsp_expr.specs.Numerals.{numeral_literal}

pub turned : (a b : Term) → term_eq a b ≡ term_eq b a
turned a b =
    same_from_decides (term_eq a b) (term_eq b a) (term_same a b)
    (λ h. sym ((term_same b a).0 h), λ h. (term_same b a).1 (sym h))

-- the literals of two numbers are one where the numbers are
same_numerals : (l r : Number) (b : Bool) → Decides b (l ≡ r)
    → number_of (numeral_literal l) ≡ Some l → number_of (numeral_literal r) ≡ Some r
    → b ≡ term_eq (numeral_literal l) (numeral_literal r)
same_numerals l r b decides left right =
    same_from_decides b (term_eq (numeral_literal l) (numeral_literal r)) (
      λ h. ap numeral_literal (decides.0 h),
      λ h. decides.1 (ap (λ n. unwrap_or n l) (sym left ∙ ap number_of h ∙ right)),
    )
    (term_same (numeral_literal l) (numeral_literal r))

along : {a : Bool} {P Q : Type 0} → Decides a P → (P → Q) → (Q → P) → Decides a Q
along p there back = (λ h. there (p.0 h), λ h. p.1 (back h))

all_parts : (a b : Bool) → (a && b) ≡ true → (a ≡ true) × (b ≡ true)
all_parts true b h = (refl, h)
all_parts false b h = absurd (true≢false (sym h))

both : {a b : Bool} {P Q : Type 0} → Decides a P → Decides b Q → Decides (a && b) (P × Q)
both {a} {b} p q = (λ h. (p.0 (all_parts a b h).0, q.0 (all_parts a b h).1), λ h i. p.1 h.0 i && q.1 h.1 i)

abbrev coefficient_of : Number → ℤ
coefficient_of (Integer n) = n
coefficient_of (Decimal d) = d.coefficient

abbrev scale_of : Number → ℕ
scale_of (Integer n) = 0
scale_of (Decimal d) = d.scale

number_same : (a b : Number) → Decides (number.eq a b) (a ≡ b)
number_same (Integer n) (Integer m) = along (Decides-int_eq n m) (ap Integer) (λ h. cc)
number_same (Decimal d) (Decimal e) =
    along (both (Decides-int_eq d.coefficient e.coefficient) (Decides-eqb d.scale e.scale))
    (λ h i. Decimal (record { coefficient = h.0 i; scale = h.1 i }))
    (λ h. (ap (λ n. coefficient_of n) h, ap (λ n. scale_of n) h))
number_same a b = (λ h. absurd (true≢false (sym h)), λ h. cc)

pub same_numbers : (l r first second : Number) (b : Bool) → first ≡ l → second ≡ r
    → number_of (numeral_literal l) ≡ Some l → number_of (numeral_literal r) ≡ Some r
    → b ≡ number.eq first second → b ≡ term_eq (numeral_literal l) (numeral_literal r)
same_numbers l r first second b is_l is_r left right is =
    is ∙ (λ i. number.eq (is_l i) (is_r i)) ∙ same_numerals l r (number.eq l r) (number_same l r) left right
