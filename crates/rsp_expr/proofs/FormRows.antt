-- Worked rows: what literals of numeric types read as. The range of a type belongs to its form.
use Rattle.std.specs.Prelude.{◌≡◌, ◌-◌, ◌^◌, List, ℕ, pos, neg_ℤ, Some, None, refl, codes}
use Rattle.rsp_number.specs.declared.number.Number.TheVariants as number
use Rattle.rsp_number.specs.declared.reading.Reading.TheVariants.{Value, Beyond, NotForm}
use Rattle.rsp_terms.specs.declared.term.Term.TheVariants.{Literal, Tagged}
use Rattle.rsp_expr.specs.declared.datatypes.WholeType.TheVariants.{Integer, Long, Byte, UnsignedLong, UnsignedByte, PositiveInteger, NonPositiveInteger, NegativeInteger, NonNegativeInteger}
use Rattle.rsp_expr.specs.CodeTypes.{bounds_of}
use Rattle.rsp_expr.specs.Datatypes.{range_of}
use Rattle.rsp_expr.specs.Forms.{whole_reading, numeric_reading, number_of}

-- ---- 64 bits with a sign: -2^63 is one of the type, and no number holds it

pub least_long : whole_reading (bounds_of Long) (codes "-9223372036854775808") ≡ Beyond
least_long = refl

pub below_long : whole_reading (bounds_of Long) (codes "-9223372036854775809") ≡ NotForm
below_long = refl

pub greatest_long : whole_reading (bounds_of Long) (codes "9223372036854775807") ≡ Value (pos (2 ^ 63 - 1))
greatest_long = refl

pub above_long : whole_reading (bounds_of Long) (codes "9223372036854775808") ≡ NotForm
above_long = refl

pub zeros_before_long : whole_reading (bounds_of Long) (codes "-0009223372036854775808") ≡ Beyond
zeros_before_long = refl

-- ---- 64 bits without a sign

pub past_what_numbers_hold : whole_reading (bounds_of UnsignedLong) (codes "9223372036854775808") ≡ Beyond
past_what_numbers_hold = refl

pub greatest_unsigned_long : whole_reading (bounds_of UnsignedLong) (codes "+18446744073709551615") ≡ Beyond
greatest_unsigned_long = refl

pub above_unsigned_long : whole_reading (bounds_of UnsignedLong) (codes "18446744073709551616") ≡ NotForm
above_unsigned_long = refl

pub minus_zero_is_zero : whole_reading (bounds_of UnsignedLong) (codes "-0") ≡ Value (pos 0)
minus_zero_is_zero = refl

-- ---- 8 bits

pub greatest_byte : whole_reading (bounds_of Byte) (codes "127") ≡ Value (pos 127)
greatest_byte = refl

pub no_byte : whole_reading (bounds_of Byte) (codes "200") ≡ NotForm
no_byte = refl

pub least_byte : whole_reading (bounds_of Byte) (codes "-128") ≡ Value (neg_ℤ (pos 128))
least_byte = refl

pub greatest_unsigned_byte : whole_reading (bounds_of UnsignedByte) (codes "+0255") ≡ Value (pos 255)
greatest_unsigned_byte = refl

pub no_unsigned_byte : whole_reading (bounds_of UnsignedByte) (codes "256") ≡ NotForm
no_unsigned_byte = refl

-- ---- types without a bound on one side

abbrev pub huge : List ℕ
huge = codes "100000000000000000000000000000000000000000"

pub huge_integer : whole_reading (bounds_of Integer) huge ≡ Beyond
huge_integer = refl

pub huge_positive_integer : whole_reading (bounds_of PositiveInteger) huge ≡ Beyond
huge_positive_integer = refl

pub huge_non_positive_integer : whole_reading (bounds_of NonPositiveInteger) huge ≡ NotForm
huge_non_positive_integer = refl

pub huge_below_zero : whole_reading (bounds_of NegativeInteger) (codes "-100000000000000000000000000000000000000000") ≡ Beyond
huge_below_zero = refl

pub minus_zero_is_not_negative : whole_reading (bounds_of NegativeInteger) (codes "-0") ≡ NotForm
minus_zero_is_not_negative = refl

pub zero_is_not_positive : whole_reading (bounds_of PositiveInteger) (codes "0") ≡ NotForm
zero_is_not_positive = refl

pub minus_one_is_not_non_negative : whole_reading (bounds_of NonNegativeInteger) (codes "-1") ≡ NotForm
minus_one_is_not_non_negative = refl

pub no_white_space : whole_reading (bounds_of Integer) (codes " 1") ≡ NotForm
no_white_space = refl

pub no_point : whole_reading (bounds_of Integer) (codes "1.0") ≡ NotForm
no_point = refl

-- ---- literals

pub number_of_an_integer : number_of (Literal (codes "-7") (codes "http://www.w3.org/2001/XMLSchema#integer"))
    ≡ Some (number.Integer (neg_ℤ (pos 7)))
number_of_an_integer = refl

pub number_of_a_decimal : number_of (Literal (codes "+01.50") (codes "http://www.w3.org/2001/XMLSchema#decimal"))
    ≡ Some (number.Decimal (record { coefficient = pos 15; scale = 1 }))
number_of_a_decimal = refl

pub too_many_digits : numeric_reading (codes "http://www.w3.org/2001/XMLSchema#decimal") (codes "0.1234567890123456789") ≡ Some Beyond
too_many_digits = refl

pub doubles_have_no_number : numeric_reading (codes "http://www.w3.org/2001/XMLSchema#double") (codes "1.5e0") ≡ None
doubles_have_no_number = refl

pub tagged_literals_have_no_number : number_of (Tagged (codes "1") (codes "en")) ≡ None
tagged_literals_have_no_number = refl

pub iris_are_compared_by_bytes : range_of (codes "http://www.w3.org/2001/XMLSchema#Integer") ≡ None
iris_are_compared_by_bytes = refl
