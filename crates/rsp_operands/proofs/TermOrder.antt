-- Comparing two terms step by step gives their order.
use Rattle.std.specs.Prelude.{◌≡◌, ℕ, Result, Ok, Err, Some, IfOk, refl}
use Rattle.std.specs.Cmp.{nat_cmp_total, tied_itself}
use Rattle.std.specs.Cmp.Lexicographic.{slice_cmp}
use Rattle.std.specs.Option.{option_cmp}
use Rattle.std.specs.Ordering.{nat_cmp, ordering_then}
use Rattle.std.specs.declared.cmp.Ordering.{Ordering}
use Rattle.std.specs.declared.cmp.Ordering.TheVariants.{Less, Equal, Greater}
use Rattle.std.proofs.Common.{ap, sym, ◌∙◌}
use Rattle.rsp_number.specs.Numbers.{comparison}
use Rattle.rsp_terms.specs.declared.term.Term.{Term}
use Rattle.rsp_terms.specs.Terms.{term_text, HasShortNumber}
use Rattle.rsp_terms.proofs.Injective.{same_from_printed}
use Rattle.rsp_expr.specs.Forms.{number_of}
use Rattle.rsp_expr.specs.Order.{document_number, term_rank, term_order}
use Rattle.rsp_expr.proofs.TermOrder.{last_equal, same_texts}

-- documents' numbers that have 32 bits are told apart by what is printed
numbers_by_texts : (a b : Term) → HasShortNumber a → HasShortNumber b → (texts : Ordering)
    → slice_cmp nat_cmp (term_text a) (term_text b) ≡ texts
    → texts ≡ ordering_then texts (nat_cmp (document_number (Some a)) (document_number (Some b)))
numbers_by_texts a b first second Less is = refl
numbers_by_texts a b first second Equal is =
    let same : a ≡ b = same_from_printed a b first second (same_texts (term_text a) (term_text b) is) in
    sym (tied_itself nat_cmp_total (document_number (Some a)))
    ∙ ap (λ term. nat_cmp (document_number (Some a)) (document_number (Some term))) same
numbers_by_texts a b first second Greater is = refl

abbrev by_numbers_and_texts : Term → Term → Ordering
by_numbers_and_texts a b =
    ordering_then (option_cmp comparison (number_of a) (number_of b)) (slice_cmp nat_cmp (term_text a) (term_text b))

-- terms of one rank stand in order by their numbers and texts
pub ordered_in_rank : {E : Type 0} (a b : Term) (found : Result Ordering E) → HasShortNumber a → HasShortNumber b
    → nat_cmp (term_rank a) (term_rank b) ≡ Equal
    → IfOk found (λ o. o ≡ by_numbers_and_texts a b) → IfOk found (λ o. o ≡ term_order a b)
ordered_in_rank a b (Ok found) first second ranks is =
    is
    ∙ ap (ordering_then (option_cmp comparison (number_of a) (number_of b)))
    (numbers_by_texts a b first second (slice_cmp nat_cmp (term_text a) (term_text b)) refl)
    ∙ ap (λ rank. ordering_then rank (ordering_then (option_cmp comparison (number_of a) (number_of b))
    (ordering_then (slice_cmp nat_cmp (term_text a) (term_text b)) (nat_cmp (document_number (Some a)) (document_number (Some b))))))
    (sym ranks)
ordered_in_rank a b (Err e) first second ranks is = is

-- terms of one rank whose numbers and texts are equal are one
pub same_in_rank : {E : Type 0} (a b : Term) (found : Result Ordering E) → HasShortNumber a → HasShortNumber b
    → IfOk found (λ o. o ≡ by_numbers_and_texts a b) → IfOk found (λ o. o ≡ Equal → a ≡ b)
same_in_rank a b (Ok found) first second is =
    λ same. same_from_printed a b first second (same_texts (term_text a) (term_text b) (last_equal _ _ (sym is ∙ same)))
same_in_rank a b (Err e) first second is = is

-- by rank, then by numbers and texts: the order
pub ordered_by_keys : (a b : Term) → HasShortNumber a → HasShortNumber b
    → ordering_then (nat_cmp (term_rank a) (term_rank b)) (by_numbers_and_texts a b) ≡ term_order a b
ordered_by_keys a b first second =
    ap (λ rest. ordering_then (nat_cmp (term_rank a) (term_rank b)) (ordering_then (option_cmp comparison (number_of a) (number_of b)) rest))
    (numbers_by_texts a b first second (slice_cmp nat_cmp (term_text a) (term_text b)) refl)
