-- The number of every term is within the range of numbers.
use Rattle.std.specs.Prelude.{ℕ, ℤ, ◌++◌, ◌&&◌, length, Bool, true, false, cond, if◌then◌else◌, List, Option, Some, None, option_map, IfSome, codes}
use Rattle.std.specs.Str.{bytes_eq}
use Rattle.rsp_number.specs.Decimals.{integer_in_range}
use Rattle.rsp_number.specs.TallyBounds.{IsSmall}
use Rattle.rsp_number.specs.Texts.{is_negative, without_sign, number_after, before_point, behind_point, has_integer_form, has_decimal_form, exact_decimal, value_or_beyond, read_decimal}
use Rattle.rsp_number.specs.declared.number.Number.{Number}
use Rattle.rsp_number.specs.declared.number.Number.TheVariants.{Integer, Decimal}
use Rattle.rsp_number.specs.declared.reading.Reading.TheVariants.{NotForm}
use Rattle.rsp_number.proofs.Tallied.{in_range-small, exact-small}
use Rattle.rsp_terms.specs.declared.term.Term.{Term}
use Rattle.rsp_terms.specs.declared.term.Term.TheVariants.{Iri, Blank, Literal, Tagged}
use Rattle.rsp_expr.specs.Datatypes.{range_of, is_in_range}
use Rattle.rsp_expr.specs.Forms.{whole_number, whole_reading, reading_map, value_in, number_of}

-- what is read within a range stays so
mapped-small : {S : Type 0} (f : S → Number) (read : Option S) → IfSome read (λ s. IsSmall (f s))
    → IfSome (value_in (Some (reading_map f (value_or_beyond read)))) IsSmall
mapped-small f None small = tt
mapped-small f (Some s) small = small

decimal_form-small : (form negative : Bool) (size scale : ℕ)
    → IfSome (value_in (Some (reading_map Decimal (cond form (value_or_beyond (exact_decimal negative size scale)) NotForm)))) IsSmall
decimal_form-small true negative size scale =
    mapped-small Decimal (exact_decimal negative size scale) (exact-small negative size scale)
decimal_form-small false negative size scale = tt

decimal_reading-small : (text : List ℕ) → IfSome (value_in (Some (reading_map Decimal (read_decimal text)))) IsSmall
decimal_reading-small text =
    decimal_form-small (has_decimal_form text) (is_negative text)
    (number_after 0 (before_point (without_sign text) ++ behind_point (without_sign text)))
    (length (behind_point (without_sign text)))

whole_reading-small : (range : Option ℤ × Option ℤ) (text : List ℕ)
    → IfSome (value_in (Some (reading_map Integer (whole_reading range text)))) IsSmall
whole_reading-small range text = by (has_integer_form text && is_in_range range (whole_number text))
  where
    by : (form : Bool)
        → IfSome (value_in (Some (reading_map Integer (cond form (value_or_beyond (integer_in_range (whole_number text))) NotForm))))
        IsSmall
    by true = mapped-small Integer (integer_in_range (whole_number text)) (in_range-small (whole_number text))
    by false = tt

whole_types-small : (range : Option (Option ℤ × Option ℤ)) (text : List ℕ)
    → IfSome (value_in (option_map (λ bounds. reading_map Integer (whole_reading bounds text)) range)) IsSmall
whole_types-small None text = tt
whole_types-small (Some range) text = whole_reading-small range text

reading-small : (decimal : Bool) (datatype text : List ℕ)
    → IfSome (value_in (if decimal then Some (reading_map Decimal (read_decimal text))
    else option_map (λ range. reading_map Integer (whole_reading range text)) (range_of datatype))) IsSmall
reading-small true datatype text = decimal_reading-small text
reading-small false datatype text = whole_types-small (range_of datatype) text

pub number_of-small : (term : Term) → IfSome (number_of term) IsSmall
number_of-small (Iri text) = tt
number_of-small (Blank document label) = tt
number_of-small (Literal lexical datatype) =
    reading-small (bytes_eq datatype (codes "http://www.w3.org/2001/XMLSchema#decimal")) datatype lexical
number_of-small (Tagged lexical language) = tt
