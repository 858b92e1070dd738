-- The boolean value of a number's literal.
use Rattle.std.specs.Prelude.{◌≡◌, not, Option, Some, None, is_some, unwrap_or, refl}
use Rattle.std.proofs.Common.{ap, sym, true≢false}
use Rattle.rsp_number.specs.Numbers.{value_of, is_zero}
use Rattle.rsp_number.specs.declared.number.Number.{Number}
use Rattle.rsp_number.specs.declared.number.Number.TheVariants.{Integer, Decimal}
use Rattle.rsp_number.specs.declared.reading.Reading.{Reading}
use Rattle.rsp_number.specs.declared.reading.Reading.TheVariants.{Value, Beyond, NotForm}
use Rattle.rsp_expr.specs.BooleanValues.{boolean_value, numeric_value}
use Rattle.rsp_expr.specs.Forms.{number_of, value_in, numeric_reading}
use Rattle.rsp_expr.specs.Numerals.{numeral, numeral_type, numeral_literal}

by_reading : (reading : Option (Reading Number)) (n : Number) → value_in reading ≡ Some n
    → numeric_value reading ≡ Some (not (is_zero (value_of n)))
by_reading None n is = absurd (true≢false (sym (ap is_some is)))
by_reading (Some (Value v)) n is = ap (λ o. Some (not (is_zero (value_of (unwrap_or o v))))) is
by_reading (Some Beyond) n is = absurd (true≢false (sym (ap is_some is)))
by_reading (Some NotForm) n is = absurd (true≢false (sym (ap is_some is)))

pub truth_of_number : (n : Number) → number_of (numeral_literal n) ≡ Some n
    → boolean_value (numeral_literal n) ≡ Some (not (is_zero (value_of n)))
truth_of_number (Integer n) is = by_reading (numeric_reading (numeral_type (Integer n)) (numeral (Integer n))) (Integer n) is
truth_of_number (Decimal d) is = by_reading (numeric_reading (numeral_type (Decimal d)) (numeral (Decimal d))) (Decimal d) is
