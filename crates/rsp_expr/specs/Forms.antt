-- Definitions: what a literal of a numeric type reads as.
use Rattle.std.specs.Prelude.{ℕ, ℤ, ◌&&◌, if◌then◌else◌, Option, None, Some, option_map, List, codes}
use Rattle.std.specs.Str.{bytes_eq}
use Rattle.rsp_number.specs.Decimals.{integer_in_range, with_sign}
use Rattle.rsp_number.specs.Texts.{is_negative, without_sign, number_after, has_integer_form, value_or_beyond, read_decimal}
use Rattle.rsp_number.specs.declared.number.Number.{Number}
use Rattle.rsp_number.specs.declared.number.Number.TheVariants as number
use Rattle.rsp_number.specs.declared.reading.Reading.{Reading}
use Rattle.rsp_number.specs.declared.reading.Reading.TheVariants.{Value, Beyond, NotForm}
use Rattle.rsp_terms.specs.declared.term.Term.{Term}
use Rattle.rsp_terms.specs.declared.term.Term.TheVariants.{Literal}
use Rattle.rsp_expr.specs.Datatypes.{range_of, is_in_range}

-- the number that a text of the form of an integer writes, however large
abbrev pub whole_number : List ℕ → ℤ
whole_number text = with_sign (is_negative text) (number_after 0 (without_sign text))

-- the range of a type belongs to its form
abbrev pub whole_reading : Option ℤ × Option ℤ → List ℕ → Reading ℤ
whole_reading range text =
    if has_integer_form text && is_in_range range (whole_number text)
    then value_or_beyond (integer_in_range (whole_number text))
    else NotForm

abbrev pub reading_map : {S T : Type 0} → (S → T) → Reading S → Reading T
reading_map f (Value value) = Value (f value)
reading_map f Beyond = Beyond
reading_map f NotForm = NotForm

-- None of a type that isn't numeric
abbrev pub numeric_reading : List ℕ → List ℕ → Option (Reading Number)
numeric_reading datatype text =
    if bytes_eq datatype (codes "http://www.w3.org/2001/XMLSchema#decimal")
    then Some (reading_map number.Decimal (read_decimal text))
    else option_map (λ range. reading_map number.Integer (whole_reading range text)) (range_of datatype)

-- the number, where that is a value
abbrev pub value_in : Option (Reading Number) → Option Number
value_in (Some (Value value)) = Some value
value_in reading = None

abbrev pub number_of : Term → Option Number
number_of (Literal lexical datatype) = value_in (numeric_reading datatype lexical)
number_of term = None
