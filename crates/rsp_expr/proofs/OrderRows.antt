-- Worked rows: the order of terms.
use Rattle.std.specs.Prelude.{◌≡◌, ℕ, Some, None, List, [], ◌∷◌, codes, refl}
use Rattle.std.specs.Fmt.{digits}
use Rattle.std.specs.declared.cmp.Ordering.TheVariants.{Less, Equal}
use Rattle.rsp_terms.specs.declared.term.Term.{Term}
use Rattle.rsp_terms.specs.declared.term.Term.TheVariants.{Iri, Blank, Literal}
use Rattle.rsp_expr.specs.Strings.{string_literal}
use Rattle.rsp_expr.specs.Order.{order, term_order}

abbrev integer : List ℕ → Term
integer text = Literal text (codes "http://www.w3.org/2001/XMLSchema#integer")

-- unbound, blank nodes, IRIs, numbers, other literals
kinds : (order None (Some (Blank 1 (codes "a"))) ∷ term_order (Blank 1 (codes "z")) (Iri (codes "a:1"))
    ∷ term_order (Iri (codes "z:1")) (integer (codes "1")) ∷ term_order (integer (codes "9")) (string_literal (codes "0"))
    ∷ term_order (integer (codes "9")) (integer (codes "x")) ∷ [])
    ≡ Less ∷ Less ∷ Less ∷ Less ∷ Less ∷ []
kinds = refl

-- numbers by value and not as texts; of one value by what is printed
numbers : (term_order (integer (codes "9")) (integer (codes "10")) ∷ term_order (integer (codes "01")) (integer (codes "1")) ∷ [])
    ≡ Less ∷ Less ∷ []
numbers = refl

-- blank nodes by what is printed: the character behind the number of the document is `x`
documents : (term_order (Blank 10 (codes "a")) (Blank 1 (codes "a")) ∷ order None None ∷ []) ≡ Less ∷ Equal ∷ []
unfolding digits
documents = refl
