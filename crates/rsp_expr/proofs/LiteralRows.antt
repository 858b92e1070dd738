-- Worked rows: how numbers are written, and the boolean values of literals.
use Rattle.std.specs.Prelude.{◌≡◌, ◌-◌, ◌^◌, [], true, false, pos, neg_ℤ, Some, None, refl, codes}
use Rattle.std.specs.Fmt.{digits}
use Rattle.rsp_number.specs.declared.number.Number.TheVariants.{Integer, Decimal}
use Rattle.rsp_terms.specs.declared.term.Term.TheVariants.{Iri, Blank, Literal, Tagged}
use Rattle.rsp_expr.specs.Numerals.{numeral}
use Rattle.rsp_expr.specs.BooleanValues.{boolean_of, boolean_value}

pub digit_before_the_point : numeral (Decimal (record { coefficient = neg_ℤ (pos 5); scale = 1 })) ≡ codes "-0.5"
unfolding digits
digit_before_the_point = refl

pub zeros_behind_the_point : numeral (Decimal (record { coefficient = pos 12003; scale = 4 })) ≡ codes "1.2003"
unfolding digits
zeros_behind_the_point = refl

pub smallest_decimal : numeral (Decimal (record { coefficient = pos 1; scale = 18 })) ≡ codes "0.000000000000000001"
unfolding digits
smallest_decimal = refl

pub whole_decimal_has_no_point : numeral (Decimal (record { coefficient = neg_ℤ (pos 30); scale = 0 })) ≡ codes "-30"
unfolding digits
whole_decimal_has_no_point = refl

pub integer_in_digits : numeral (Integer (neg_ℤ (pos (2 ^ 63 - 1)))) ≡ codes "-9223372036854775807"
unfolding digits
integer_in_digits = refl

pub zero_has_no_sign : numeral (Integer (pos 0)) ≡ codes "0"
unfolding digits
zero_has_no_sign = refl

-- ---- boolean values

pub boolean_by_a_digit : boolean_value (Literal (codes "1") (codes "http://www.w3.org/2001/XMLSchema#boolean"))
    ≡ Some true
boolean_by_a_digit = refl

pub boolean_without_the_form : boolean_value (Literal (codes "yes")
    (codes "http://www.w3.org/2001/XMLSchema#boolean")) ≡ Some false
boolean_without_the_form = refl

pub no_boolean_without_the_form : boolean_of (Literal (codes "TRUE")
    (codes "http://www.w3.org/2001/XMLSchema#boolean")) ≡ None
no_boolean_without_the_form = refl

pub empty_string : boolean_value (Literal [] (codes "http://www.w3.org/2001/XMLSchema#string")) ≡ Some false
empty_string = refl

pub text_of_false_is_filled : boolean_value (Literal (codes "false")
    (codes "http://www.w3.org/2001/XMLSchema#string")) ≡ Some true
text_of_false_is_filled = refl

pub empty_text_with_a_tag : boolean_value (Tagged [] (codes "en")) ≡ Some false
empty_text_with_a_tag = refl

pub text_with_a_tag : boolean_value (Tagged (codes "a") (codes "en")) ≡ Some true
text_with_a_tag = refl

pub lang_string_without_a_tag : boolean_value
    (Literal (codes "a") (codes "http://www.w3.org/1999/02/22-rdf-syntax-ns#langString")) ≡ None
lang_string_without_a_tag = refl

pub decimal_of_zero : boolean_value (Literal (codes "-0.00") (codes "http://www.w3.org/2001/XMLSchema#decimal"))
    ≡ Some false
decimal_of_zero = refl

pub small_decimal : boolean_value (Literal (codes ".01") (codes "http://www.w3.org/2001/XMLSchema#decimal")) ≡ Some true
small_decimal = refl

pub byte_out_of_range : boolean_value (Literal (codes "200") (codes "http://www.w3.org/2001/XMLSchema#byte"))
    ≡ Some false
byte_out_of_range = refl

pub long_that_is_beyond : boolean_value (Literal (codes "-9223372036854775808")
    (codes "http://www.w3.org/2001/XMLSchema#long")) ≡ None
long_that_is_beyond = refl

pub long_out_of_range : boolean_value (Literal (codes "-9223372036854775809")
    (codes "http://www.w3.org/2001/XMLSchema#long")) ≡ Some false
long_out_of_range = refl

pub double_has_none : boolean_value (Literal (codes "1e0") (codes "http://www.w3.org/2001/XMLSchema#double")) ≡ None
double_has_none = refl

pub other_datatype_has_none : boolean_value (Literal (codes "1") (codes "d:t")) ≡ None
other_datatype_has_none = refl

pub iri_has_none : boolean_value (Iri (codes "a:1")) ≡ None
iri_has_none = refl

pub blank_node_has_none : boolean_value (Blank 0 (codes "a")) ≡ None
blank_node_has_none = refl
