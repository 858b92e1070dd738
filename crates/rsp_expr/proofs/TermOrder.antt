-- The order of terms is total, and a term is equal to itself alone.
use Rattle.std.specs.Prelude.{◌≡◌, ℕ, List, [], ◌∷◌, ◌++◌, Some, option_map, refl}
use Rattle.std.specs.Cmp.{IsTotalOrder, nat_cmp_total, on_total, then_total, unsigned_tied}
use Rattle.std.specs.Cmp.Lexicographic.{slice_cmp, options_total, nat_list_cmp_total, texts_ties, bytes_decides}
use Rattle.std.specs.Fmt.{decimal}
use Rattle.std.specs.Option.{option_and_then, option_cmp}
use Rattle.std.specs.Ordering.{nat_cmp, ordering_then, is_eq}
use Rattle.std.specs.declared.cmp.Ordering.{Ordering}
use Rattle.std.specs.declared.cmp.Ordering.TheVariants.{Less, Equal, Greater}
use Rattle.std.proofs.Common.{ap, sym, ◌∙◌}
use Rattle.std.proofs.lemmas.Bool.{eqb-true}
use Rattle.std.proofs.lemmas.List.{append_cancel_left}
use Rattle.rsp_number.specs.Numbers.{comparison}
use Rattle.rsp_number.proofs.Comparing.{comparison-total}
use Rattle.rsp_terms.specs.declared.term.Term.{Term}
use Rattle.rsp_terms.specs.declared.term.Term.TheVariants.{Iri, Blank, Literal, Tagged}
use Rattle.rsp_terms.specs.Terms.{term_text}
use Rattle.rsp_terms.proofs.Injective.{same_from_printed}
use Rattle.rsp_expr.specs.Forms.{number_of}
use Rattle.rsp_expr.specs.Order.{rank, term_rank, document_number, order, term_order}

pub order_total : IsTotalOrder order
order_total =
    then_total (on_total rank nat_cmp_total)
    (then_total
    (on_total (option_and_then number_of) (options_total comparison-total))
    (then_total
    (on_total (option_map term_text) (options_total nat_list_cmp_total))
    (on_total document_number nat_cmp_total)))

pub term_order_total : IsTotalOrder term_order
term_order_total = record {
  antisymm = λ x y. order_total.antisymm (Some x) (Some y);
  trans = λ x y z. order_total.trans (Some x) (Some y) (Some z);
  congr = λ x y z. order_total.congr (Some x) (Some y) (Some z);
}

first_equal : (first second : Ordering) → ordering_then first second ≡ Equal → first ≡ Equal
first_equal Less second same = same
first_equal Equal second same = refl
first_equal Greater second same = same

pub last_equal : (first second : Ordering) → ordering_then first second ≡ Equal → second ≡ Equal
last_equal Less second same = cc
last_equal Equal second same = same
last_equal Greater second same = cc

pub same_texts : (xs ys : List ℕ) → slice_cmp nat_cmp xs ys ≡ Equal → xs ≡ ys
same_texts xs ys same = (bytes_decides xs ys).0 (texts_ties xs ys ∙ ap is_eq same)

same_numbers : (m n : ℕ) → nat_cmp m n ≡ Equal → m ≡ n
same_numbers m n same = eqb-true m n (sym (unsigned_tied m n) ∙ ap is_eq same)

abbrev tail : List ℕ → List ℕ
tail [] = []
tail (x ∷ xs) = xs

-- terms that are printed alike, of documents of one number, are one
printed_alike : (a b : Term) → term_text a ≡ term_text b → document_number (Some a) ≡ document_number (Some b) → a ≡ b
printed_alike (Blank document label) (Blank number other) same numbers =
    let behind : decimal document ++ 120 ∷ label ≡ decimal number ++ 120 ∷ other = ap (λ text. tail (tail (tail text))) same in
    let labels : label ≡ other =
    ap tail (append_cancel_left (decimal document) (120 ∷ label) (120 ∷ other)
    (behind ∙ ap (λ n. decimal n ++ 120 ∷ other) (sym numbers))) in
    λ i. Blank (numbers i) (labels i)
printed_alike (Iri text) (Iri other) same numbers = same_from_printed (Iri text) (Iri other) tt tt same
printed_alike (Literal lexical datatype) (Literal other type) same numbers =
    same_from_printed (Literal lexical datatype) (Literal other type) tt tt same
printed_alike (Literal lexical datatype) (Tagged other tag) same numbers =
    same_from_printed (Literal lexical datatype) (Tagged other tag) tt tt same
printed_alike (Tagged lexical language) (Literal other type) same numbers =
    same_from_printed (Tagged lexical language) (Literal other type) tt tt same
printed_alike (Tagged lexical language) (Tagged other tag) same numbers =
    same_from_printed (Tagged lexical language) (Tagged other tag) tt tt same
printed_alike a b same numbers = cc

pub same_in_order : (a b : Term) → term_order a b ≡ Equal → a ≡ b
same_in_order a b same =
    let behind_rank = last_equal (nat_cmp (term_rank a) (term_rank b)) _ same in
    let behind_number = last_equal (option_cmp comparison (number_of a) (number_of b)) _ behind_rank in
    let texts = slice_cmp nat_cmp (term_text a) (term_text b) in
    let numbers = nat_cmp (document_number (Some a)) (document_number (Some b)) in
    printed_alike a b (same_texts (term_text a) (term_text b) (first_equal texts numbers behind_number))
    (same_numbers (document_number (Some a)) (document_number (Some b)) (last_equal texts numbers behind_number))
