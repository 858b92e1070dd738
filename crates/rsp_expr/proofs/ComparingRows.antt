-- Worked rows: `=`, `<` and IN.
use Rattle.std.specs.Prelude.{◌≡◌, ℕ, true, false, Some, None, List, [], ◌∷◌, codes, refl}
use Rattle.std.specs.Str.{chars}
use Rattle.rsp_terms.specs.declared.term.Term.{Term}
use Rattle.rsp_terms.specs.declared.term.Term.TheVariants.{Iri, Literal, Tagged}
use Rattle.rsp_expr.specs.BooleanValues.{boolean_literal}
use Rattle.rsp_expr.specs.Strings.{string_literal}
use Rattle.rsp_expr.specs.Comparing.{equality, comparison, membership}
use Rattle.rsp_functions.specs.declared.function.Sign.TheVariants as sign

abbrev integer : List ℕ → Term
integer text = Literal text (codes "http://www.w3.org/2001/XMLSchema#integer")

abbrev decimal : List ℕ → Term
decimal text = Literal text (codes "http://www.w3.org/2001/XMLSchema#decimal")

abbrev double : List ℕ → Term
double text = Literal text (codes "http://www.w3.org/2001/XMLSchema#double")

-- numbers by value, also of two types
equal_numbers : equality (integer (codes "01")) (decimal (codes "1.0")) ≡ Some true
equal_numbers = refl

-- a double is an error, against itself and an IRI too
doubles : (equality (double (codes "1e0")) (double (codes "1e0")) ∷ equality (double (codes "1e0")) (Iri (codes "a:1")) ∷ [])
    ≡ None ∷ None ∷ []
doubles = refl

-- one term is equal to itself, whatever its type
same_terms : (equality (Tagged (codes "a") (codes "en")) (Tagged (codes "a") (codes "en"))
    ∷ equality (Literal (codes "yes") (codes "http://www.w3.org/2001/XMLSchema#boolean")) (Literal (codes "yes") (codes "http://www.w3.org/2001/XMLSchema#boolean"))
    ∷ equality (integer (codes "x")) (integer (codes "x")) ∷ [])
    ≡ Some true ∷ Some true ∷ Some true ∷ []
same_terms = refl

-- literals of unlike types may be of one value, so they aren't unequal
unlike_literals : (equality (Tagged (codes "abc") (codes "en")) (string_literal (codes "abc"))
    ∷ equality (integer (codes "1")) (string_literal (codes "1"))
    ∷ equality (boolean_literal true) (integer (codes "1"))
    ∷ equality (Literal (codes "200") (codes "http://www.w3.org/2001/XMLSchema#byte")) (integer (codes "200")) ∷ [])
    ≡ None ∷ None ∷ None ∷ None ∷ []
unlike_literals = refl

other_terms : (equality (Iri (codes "a:1")) (Iri (codes "a:2")) ∷ equality (Iri (codes "a:1")) (string_literal (codes "a:1")) ∷ [])
    ≡ Some false ∷ Some false ∷ []
other_terms = refl

-- U+FFFD is before U+10000
strings_by_code_points :
    comparison sign.Less (string_literal (239 ∷ 191 ∷ 189 ∷ [])) (string_literal (240 ∷ 144 ∷ 128 ∷ 128 ∷ [])) ≡ Some true
unfolding chars
strings_by_code_points = refl

booleans_in_order : comparison sign.LessEqual (boolean_literal true) (boolean_literal false) ≡ Some false
booleans_in_order = refl

no_order_of_iris : comparison sign.Less (Iri (codes "a:1")) (Iri (codes "a:2")) ≡ None
no_order_of_iris = refl

no_order_of_tagged : comparison sign.Less (Tagged (codes "a") (codes "en")) (Tagged (codes "b") (codes "en")) ≡ None
no_order_of_tagged = refl

no_comparison_by_arithmetic : comparison sign.Add (integer (codes "1")) (integer (codes "1")) ≡ None
no_comparison_by_arithmetic = refl

-- an error among the members doesn't hide one that is equal; no member is equal in the empty list
members : (membership false (Some (integer (codes "1"))) (Some (integer (codes "2")) ∷ None ∷ Some (integer (codes "1")) ∷ [])
    ∷ membership false (Some (integer (codes "1"))) (Some (integer (codes "2")) ∷ None ∷ [])
    ∷ membership true (Some (integer (codes "1"))) (Some (integer (codes "2")) ∷ [])
    ∷ membership false None [] ∷ membership true None [] ∷ [])
    ≡ Some true ∷ None ∷ Some true ∷ Some false ∷ Some true ∷ []
members = refl
