-- Definitions: booleans, and the boolean value of a term (SPARQL 1.1, section 17.2.2).
use Rattle.std.specs.Prelude.{ℕ, ◌==◌, Bool, true, false, not, ◌||◌, if◌then◌else◌, Option, None, Some, unwrap_or, List, length}
use Rattle.std.specs.Prelude.{codes}
use Rattle.std.specs.Str.{bytes_eq}
use Rattle.rsp_number.specs.Numbers.{value_of, is_zero}
use Rattle.rsp_number.specs.declared.number.Number.{Number}
use Rattle.rsp_number.specs.declared.reading.Reading.{Reading}
use Rattle.rsp_number.specs.declared.reading.Reading.TheVariants.{Value, Beyond, NotForm}
use Rattle.rsp_terms.specs.declared.term.Term.{Term}
use Rattle.rsp_terms.specs.declared.term.Term.TheVariants.{Literal, Tagged}
use Rattle.rsp_expr.specs.Forms.{numeric_reading}

abbrev pub xsd_boolean : List ℕ
xsd_boolean = codes "http://www.w3.org/2001/XMLSchema#boolean"

-- the four forms of a boolean
abbrev pub boolean_reading : List ℕ → Option Bool
boolean_reading text =
    if bytes_eq text (codes "true") || bytes_eq text (codes "1") then Some true
    else if bytes_eq text (codes "false") || bytes_eq text (codes "0") then Some false
    else None

-- the value of a boolean with the form
abbrev pub boolean_of : Term → Option Bool
boolean_of (Literal lexical datatype) = if bytes_eq datatype xsd_boolean then boolean_reading lexical else None
boolean_of term = None

abbrev pub is_filled : List ℕ → Bool
is_filled text = not (length text == 0)

-- whether a number isn't 0: false of one without the form, none of one that is Beyond and of no number
abbrev pub numeric_value : Option (Reading Number) → Option Bool
numeric_value None = None
numeric_value (Some (Value number)) = Some (not (is_zero (value_of number)))
numeric_value (Some Beyond) = None
numeric_value (Some NotForm) = Some false

-- None is an expression error
abbrev pub boolean_value : Term → Option Bool
boolean_value (Literal lexical datatype) =
    if bytes_eq datatype xsd_boolean then Some (unwrap_or (boolean_reading lexical) false)
    else if bytes_eq datatype (codes "http://www.w3.org/2001/XMLSchema#string") then Some (is_filled lexical)
    else numeric_value (numeric_reading datatype lexical)
boolean_value (Tagged lexical language) = Some (is_filled lexical)
boolean_value term = None

abbrev pub boolean_text : Bool → List ℕ
boolean_text value = if value then codes "true" else codes "false"

abbrev pub boolean_literal : Bool → Term
boolean_literal value = Literal (boolean_text value) xsd_boolean
