-- Definitions: arithmetic and the functions (SPARQL 1.1 Query, sections 17.3 and 17.4), a line each. None is an error.
use Rattle.std.specs.Prelude.{ℕ, ℤ, pos, Bool, true, false, not, if◌then◌else◌, Option, Some, None, option_map, is_some, List}
use Rattle.std.specs.Prelude.{[], ◌∷◌, map, codes}
use Rattle.std.specs.Bool.{then_some}
use Rattle.std.specs.List.{concat, list_all}
use Rattle.std.specs.Option.{option_and_then, option_eq}
use Rattle.std.specs.Str.{bytes_eq, chars}
use Rattle.rsp_number.specs.Numbers.{integer_result, sum, difference, product, quotient, negation, absolute_value, rounding}
use Rattle.rsp_number.specs.Numbers.{floor_of, ceil_of, round_of}
use Rattle.rsp_number.specs.declared.number.Number.{Number}
use Rattle.rsp_number.specs.declared.number.Number.TheVariants.{Integer, Decimal}
use Rattle.rsp_strings.specs.Occurrences as texts
use Rattle.rsp_strings.specs.Ranges.{is_matched_by}
use Rattle.rsp_strings.specs.Substrings.{character_count, substring, substring_from}
use Rattle.rsp_terms.specs.declared.term.Term.{Term}
use Rattle.rsp_terms.specs.declared.term.Term.TheVariants.{Iri, Blank, Literal, Tagged}
use Rattle.rsp_terms.specs.Characters.{is_iri_text, is_tag_text}
use Rattle.rsp_terms.specs.Same.{term_eq}
use Rattle.rsp_expr.specs.BooleanValues.{boolean_literal}
use Rattle.rsp_expr.specs.Forms.{number_of}
use Rattle.rsp_expr.specs.Numerals.{numeral_literal}
use Rattle.rsp_expr.specs.Strings.{string_of, string_literal, is_inexact}
use Rattle.rsp_expr.specs.Booleans.{truth_of, boolean_result}
use Rattle.rsp_expr.specs.Comparing.{is_literal}
use Rattle.rsp_expr.specs.Errors.{value_of_both, all_values, first_value}
use Rattle.rsp_functions.specs.declared.function.Function.{Function}
use Rattle.rsp_functions.specs.declared.function.Function.TheVariants as function
use Rattle.rsp_functions.specs.declared.function.Sign.{Sign}
use Rattle.rsp_functions.specs.declared.function.Sign.TheVariants as sign

-- ---- results

abbrev pub numeral_result : Option Number → Option Term
numeral_result number = option_map numeral_literal number

abbrev pub string_result : List ℕ → Option Term
string_result text = Some (string_literal text)

-- ---- arithmetic (section 17.3)

abbrev pub calculation : Sign → Number → Number → Option Number
calculation sign.Add left right = sum left right
calculation sign.Subtract left right = difference left right
calculation sign.Multiply left right = product left right
calculation sign.Divide left right = quotient left right
calculation sign left right = None

abbrev pub arithmetic : Sign → Term → Term → Option Term
arithmetic sign left right = numeral_result (value_of_both (calculation sign) (number_of left) (number_of right))

abbrev pub unary_minus : Term → Option Term
unary_minus term = numeral_result (option_map negation (number_of term))

abbrev pub unary_plus : Term → Option Term
unary_plus term = numeral_result (number_of term)

-- ---- texts (section 17.4.3.1): an xsd:string, or a literal with a tag

pub record Written : Type 0 where
  pub text : List ℕ
  pub tag : Option (List ℕ)

abbrev pub plain_text : List ℕ → Written
plain_text text = record { text = text; tag = None }

abbrev pub written_of : Term → Option Written
written_of (Tagged lexical language) = Some (record { text = lexical; tag = Some language })
written_of term = option_map plain_text (string_of term)

-- the literal of a text: an xsd:string where there is no tag
abbrev pub text_literal : Option (List ℕ) → List ℕ → Term
text_literal None text = string_literal text
text_literal (Some language) text = Tagged text language

-- (section 17.4.3.1.2) both strings, or of one tag, or the second a string
abbrev pub are_compatible : Option (List ℕ) → Option (List ℕ) → Bool
are_compatible tag None = true
are_compatible tag (Some other) = option_eq bytes_eq tag (Some other)

-- a function of two compatible texts
abbrev pub value_of_texts : (Written → Written → Term) → Term → Term → Option Term
value_of_texts f left right =
    value_of_both (λ (a b : Written). then_some (are_compatible a.tag b.tag) (f a b)) (written_of left) (written_of right)

abbrev pub test_of_texts : (List ℕ → List ℕ → Bool) → Term → Term → Option Term
test_of_texts test left right = value_of_texts (λ a b. boolean_literal (test a.text b.text)) left right

-- the part that was found, with the tag of the text; the empty string where there is none
abbrev pub part_of : Written → Option (List ℕ) → Term
part_of written None = string_literal []
part_of written (Some part) = text_literal written.tag part

abbrev pub integer_in : Number → Option ℤ
integer_in (Integer n) = Some n
integer_in (Decimal d) = None

-- the number of an integer of any type
abbrev pub integer_of : Term → Option ℤ
integer_of term = option_and_then integer_in (number_of term)

-- ---- terms

-- STR (section 17.4.2.5)
abbrev pub lexical_form : Term → Option Term
lexical_form (Iri text) = string_result text
lexical_form (Blank document label) = None
lexical_form (Literal lexical datatype) = string_result lexical
lexical_form (Tagged lexical language) = string_result lexical

-- LANG (section 17.4.2.6)
abbrev pub language_tag : Term → Option Term
language_tag (Literal lexical datatype) = string_result []
language_tag (Tagged lexical language) = string_result language
language_tag _ = None

-- DATATYPE (section 17.4.2.7)
abbrev pub lang_string : List ℕ
lang_string = codes "http://www.w3.org/1999/02/22-rdf-syntax-ns#langString"

abbrev pub datatype_iri : Term → Option Term
datatype_iri (Literal lexical datatype) = Some (Iri datatype)
datatype_iri (Tagged lexical language) = Some (Iri lang_string)
datatype_iri _ = None

-- IRI and URI (section 17.4.2.8): a string that is absolute and of IRI characters alone
abbrev pub iri_in : List ℕ → Option Term
iri_in text = then_some (is_iri_text (chars text)) (Iri text)

abbrev pub iri_of : Term → Option Term
iri_of (Iri text) = Some (Iri text)
iri_of term = option_and_then iri_in (string_of term)

abbrev pub is_iri : Term → Bool
is_iri (Iri text) = true
is_iri _ = false

abbrev pub is_blank : Term → Bool
is_blank (Blank document label) = true
is_blank _ = false

-- STRDT (section 17.4.2.10)
abbrev pub typed_literal : List ℕ → Term → Option Term
typed_literal text (Iri datatype) = then_some (not (bytes_eq datatype lang_string)) (Literal text datatype)
typed_literal text term = None

-- STRLANG (section 17.4.2.11)
abbrev pub language_literal : List ℕ → List ℕ → Option Term
language_literal text language = then_some (is_tag_text language) (Tagged text language)

-- SUBSTR (section 17.4.3.3)
abbrev pub part_from : Written → ℤ → Option Term
part_from written start = Some (text_literal written.tag (substring_from written.text start))

-- SUBSTR (section 17.4.3.3)
abbrev pub part_within : ℤ → Written → ℤ → Option Term
part_within count written start = Some (text_literal written.tag (substring written.text start count))

-- CONCAT (section 17.4.3.12): the tag that all have
abbrev pub common_tag : List (Option (List ℕ)) → Option (List ℕ)
common_tag [] = None
common_tag (tag ∷ tags) = if list_all (option_eq bytes_eq tag) tags then tag else None

abbrev pub joined_text : List Written → Term
joined_text parts =
    text_literal (common_tag (map (λ (w : Written). w.tag) parts)) (concat (map (λ (w : Written). w.text) parts))

abbrev pub concatenation : List Term → Option Term
concatenation terms = option_map joined_text (all_values (map written_of terms))

-- ---- all

-- the functions whose arguments may not be errors; another number of arguments is an error
abbrev pub function_value : Function → List Term → Option Term
function_value function.IsIri (term ∷ []) = boolean_result (Some (is_iri term))  -- 17.4.2.1
function_value function.IsUri (term ∷ []) = boolean_result (Some (is_iri term))  -- 17.4.2.1
function_value function.IsBlank (term ∷ []) = boolean_result (Some (is_blank term))  -- 17.4.2.2
function_value function.IsLiteral (term ∷ []) = boolean_result (Some (is_literal term))  -- 17.4.2.3
function_value function.IsNumeric (term ∷ []) = then_some (not (is_inexact term)) (boolean_literal (is_some (number_of term)))
function_value function.Str (term ∷ []) = lexical_form term  -- 17.4.2.5
function_value function.Lang (term ∷ []) = language_tag term  -- 17.4.2.6
function_value function.Datatype (term ∷ []) = datatype_iri term  -- 17.4.2.7
function_value function.Iri (term ∷ []) = iri_of term  -- 17.4.2.8
function_value function.Uri (term ∷ []) = iri_of term  -- 17.4.2.8
function_value function.StrLen (term ∷ []) =
    option_and_then (λ (w : Written). numeral_result (integer_result (pos (character_count w.text)))) (written_of term)
function_value function.Abs (term ∷ []) = numeral_result (option_map absolute_value (number_of term))  -- 17.4.4.1
function_value function.Round (term ∷ []) = numeral_result (option_map (rounding round_of) (number_of term))
function_value function.Ceil (term ∷ []) = numeral_result (option_map (rounding ceil_of) (number_of term))
function_value function.Floor (term ∷ []) = numeral_result (option_map (rounding floor_of) (number_of term))
function_value function.SameTerm (left ∷ right ∷ []) = boolean_result (Some (term_eq left right))  -- 17.4.1.8
function_value function.StrDt (text ∷ type ∷ []) = option_and_then (λ lexical. typed_literal lexical type) (string_of text)
function_value function.StrLang (text ∷ tag ∷ []) = value_of_both language_literal (string_of text) (string_of tag)
function_value function.StrStarts (text ∷ part ∷ []) = test_of_texts texts.begins_with text part  -- 17.4.3.6
function_value function.StrEnds (text ∷ part ∷ []) = test_of_texts texts.finishes_with text part  -- 17.4.3.7
function_value function.Contains (text ∷ part ∷ []) = test_of_texts texts.contains text part  -- 17.4.3.8
function_value function.StrBefore (text ∷ part ∷ []) =
    value_of_texts (λ a b. part_of a (texts.text_before a.text b.text)) text part
function_value function.StrAfter (text ∷ part ∷ []) =
    value_of_texts (λ a b. part_of a (texts.text_after a.text b.text)) text part
function_value function.LangMatches (tag ∷ range ∷ []) =
    value_of_both (λ a b. boolean_result (Some (is_matched_by a b))) (string_of tag) (string_of range)
function_value function.Substr (text ∷ start ∷ []) = value_of_both part_from (written_of text) (integer_of start)
function_value function.Substr (text ∷ start ∷ count ∷ []) =
    option_and_then (λ n. value_of_both (part_within n) (written_of text) (integer_of start)) (integer_of count)
function_value name terms = None

-- IF and COALESCE may have arguments that are errors (sections 17.4.1.2 and 17.4.1.3)
abbrev pub call_value : Function → List (Option Term) → Option Term
call_value function.If (condition ∷ first ∷ second ∷ []) =
    option_and_then (λ holds. if holds then first else second) (truth_of condition)
call_value function.Coalesce arguments = first_value arguments
call_value function.Concat arguments = option_and_then concatenation (all_values arguments)
call_value name arguments = option_and_then (function_value name) (all_values arguments)
