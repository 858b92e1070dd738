-- Worked rows: functions, with the examples of SPARQL 1.1 Query, section 17.4.
use Rattle.std.specs.Prelude.{◌≡◌, ℕ, true, false, Some, None, List, [], ◌∷◌, codes, refl}
use Rattle.std.specs.Fmt.{digits}
use Rattle.std.specs.Str.{chars}
use Rattle.rsp_number.specs.Decimals.{greatest}
use Rattle.rsp_terms.specs.declared.term.Term.{Term}
use Rattle.rsp_terms.specs.declared.term.Term.TheVariants.{Iri, Blank, Literal, Tagged}
use Rattle.rsp_expr.specs.BooleanValues.{boolean_literal}
use Rattle.rsp_expr.specs.Strings.{string_literal}
use Rattle.rsp_expr.specs.Functions.{call_value, arithmetic}
use Rattle.rsp_functions.specs.declared.function.Function.TheVariants as function
use Rattle.rsp_functions.specs.declared.function.Sign.TheVariants as sign

abbrev integer : List ℕ → Term
integer text = Literal text (codes "http://www.w3.org/2001/XMLSchema#integer")

abbrev decimal : List ℕ → Term
decimal text = Literal text (codes "http://www.w3.org/2001/XMLSchema#decimal")

abbrev string : List ℕ → Term
string = string_literal

-- 17.4.3.3
parts : (call_value function.Substr (Some (string (codes "foobar")) ∷ Some (integer (codes "4")) ∷ [])
    ∷ call_value function.Substr (Some (Tagged (codes "foobar") (codes "en")) ∷ Some (integer (codes "4")) ∷ Some (integer (codes "1")) ∷ []) ∷ [])
    ≡ Some (string (codes "bar")) ∷ Some (Tagged (codes "b") (codes "en")) ∷ []
unfolding chars lib.Utf8.encode
parts = refl

-- a start of 0 doesn't move the end
part_from_zero : call_value function.Substr (Some (string (codes "abc")) ∷ Some (integer (codes "0")) ∷ Some (integer (codes "2")) ∷ [])
    ≡ Some (string (codes "a"))
unfolding chars lib.Utf8.encode
part_from_zero = refl

-- characters and not bytes: e with acute accent has two
characters : call_value function.StrLen (Some (string (195 ∷ 169 ∷ 97 ∷ [])) ∷ []) ≡ Some (integer (codes "2"))
unfolding digits chars
characters = refl

-- 17.4.3.9: the tag of the first stays where the second occurs
before : (call_value function.StrBefore (Some (Tagged (codes "abc") (codes "en")) ∷ Some (string (codes "bc")) ∷ [])
    ∷ call_value function.StrBefore (Some (Tagged (codes "abc") (codes "en")) ∷ Some (string []) ∷ [])
    ∷ call_value function.StrBefore (Some (Tagged (codes "abc") (codes "en")) ∷ Some (string (codes "xyz")) ∷ [])
    ∷ call_value function.StrBefore (Some (string (codes "abc")) ∷ Some (Tagged (codes "b") (codes "en")) ∷ [])
    ∷ call_value function.StrBefore (Some (Tagged (codes "abc") (codes "en")) ∷ Some (Tagged (codes "b") (codes "cy")) ∷ []) ∷ [])
    ≡ Some (Tagged (codes "a") (codes "en")) ∷ Some (Tagged [] (codes "en")) ∷ Some (string []) ∷ None ∷ None ∷ []
before = refl

-- 17.4.3.12
concatenations : (call_value function.Concat (Some (Tagged (codes "foo") (codes "en")) ∷ Some (Tagged (codes "bar") (codes "en")) ∷ [])
    ∷ call_value function.Concat (Some (Tagged (codes "foo") (codes "en")) ∷ Some (string (codes "bar")) ∷ [])
    ∷ call_value function.Concat (Some (Tagged (codes "foo") (codes "en")) ∷ Some (Tagged (codes "bar") (codes "EN")) ∷ [])
    ∷ call_value function.Concat [] ∷ call_value function.Concat (Some (Iri (codes "a:1")) ∷ []) ∷ [])
    ≡ Some (Tagged (codes "foobar") (codes "en")) ∷ Some (string (codes "foobar")) ∷ Some (string (codes "foobar")) ∷ Some (string []) ∷ None ∷ []
concatenations = refl

-- 17.4.1.2, 17.4.1.3: only the chosen argument may not be an error
choices : (call_value function.If (Some (boolean_literal true) ∷ Some (string (codes "a")) ∷ None ∷ [])
    ∷ call_value function.If (None ∷ Some (string (codes "a")) ∷ Some (string (codes "a")) ∷ [])
    ∷ call_value function.Coalesce (None ∷ Some (string (codes "a")) ∷ [])
    ∷ call_value function.Coalesce (None ∷ []) ∷ call_value function.Coalesce [] ∷ [])
    ≡ Some (string (codes "a")) ∷ None ∷ Some (string (codes "a")) ∷ None ∷ None ∷ []
choices = refl

-- 17.4.2: what isn't a literal has no tag and no datatype, and a blank node no text
of_terms : (call_value function.Str (Some (Blank 1 (codes "b")) ∷ []) ∷ call_value function.Str (Some (Iri (codes "a:1")) ∷ [])
    ∷ call_value function.Lang (Some (string (codes "a")) ∷ []) ∷ call_value function.Lang (Some (Iri (codes "a:1")) ∷ [])
    ∷ call_value function.Datatype (Some (Tagged (codes "a") (codes "en")) ∷ []) ∷ [])
    ≡ None ∷ Some (string (codes "a:1")) ∷ Some (string []) ∷ None
    ∷ Some (Iri (codes "http://www.w3.org/1999/02/22-rdf-syntax-ns#langString")) ∷ []
of_terms = refl

numeric : (call_value function.IsNumeric (Some (Iri (codes "a:1")) ∷ [])
    ∷ call_value function.IsNumeric (Some (Literal (codes "200") (codes "http://www.w3.org/2001/XMLSchema#byte")) ∷ [])
    ∷ call_value function.IsNumeric (Some (Literal (codes "1e0") (codes "http://www.w3.org/2001/XMLSchema#double")) ∷ [])
    ∷ call_value function.IsNumeric (None ∷ []) ∷ [])
    ≡ Some (boolean_literal false) ∷ Some (boolean_literal false) ∷ None ∷ None ∷ []
numeric = refl

-- 17.4.2.8, 17.4.2.10, 17.4.2.11
constructors : (call_value function.Iri (Some (string (codes "a:1")) ∷ []) ∷ call_value function.Iri (Some (string (codes "a b:1")) ∷ [])
    ∷ call_value function.Iri (Some (Tagged (codes "a:1") (codes "en")) ∷ [])
    ∷ call_value function.StrDt (Some (string (codes "x")) ∷ Some (Iri (codes "d:t")) ∷ [])
    ∷ call_value function.StrDt (Some (string (codes "x")) ∷ Some (Iri (codes "http://www.w3.org/1999/02/22-rdf-syntax-ns#langString")) ∷ [])
    ∷ call_value function.StrLang (Some (string (codes "x")) ∷ Some (string (codes "e1")) ∷ []) ∷ [])
    ≡ Some (Iri (codes "a:1")) ∷ None ∷ None ∷ Some (Literal (codes "x") (codes "d:t")) ∷ None ∷ None ∷ []
unfolding chars
constructors = refl

-- 17.4.3.13
ranges : (call_value function.LangMatches (Some (string (codes "de-CH")) ∷ Some (string (codes "DE")) ∷ [])
    ∷ call_value function.LangMatches (Some (string []) ∷ Some (string (codes "*")) ∷ [])
    ∷ call_value function.LangMatches (Some (string (codes "deu")) ∷ Some (string (codes "de")) ∷ []) ∷ [])
    ≡ Some (boolean_literal true) ∷ Some (boolean_literal false) ∷ Some (boolean_literal false) ∷ []
ranges = refl

-- another number of arguments is an error
arities : (call_value function.Str [] ∷ call_value function.If (Some (boolean_literal true) ∷ []) ∷ call_value function.SameTerm (Some (Iri (codes "a:1")) ∷ []) ∷ [])
    ≡ None ∷ None ∷ None ∷ []
arities = refl

-- a quotient is a decimal, and a digit stands before its point
quotients : (arithmetic sign.Divide (integer (codes "-1")) (integer (codes "2")) ∷ arithmetic sign.Divide (integer (codes "1")) (integer (codes "0"))
    ∷ arithmetic sign.Less (integer (codes "1")) (integer (codes "0")) ∷ [])
    ≡ Some (decimal (codes "-0.5")) ∷ None ∷ None ∷ []
unfolding digits greatest
quotients = refl
