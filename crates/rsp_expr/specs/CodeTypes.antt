-- Words of the way: the datatypes as the code keeps them, and what literals of them read as. The laws of `TypeLaws` say that
-- this is what the definitions say of their IRIs.
use Rattle.std.specs.Prelude.{ℕ, ◌-◌, ◌^◌, ℤ, pos, neg_ℤ, Bool, true, false, if◌then◌else◌, Option, None, Some, unwrap_or, List}
use Rattle.std.specs.Prelude.{[], ◌∷◌, codes}
use Rattle.std.specs.Str.{bytes_eq}
use Rattle.rsp_number.specs.Texts.{read_decimal}
use Rattle.rsp_number.specs.declared.number.Number.{Number}
use Rattle.rsp_number.specs.declared.number.Number.TheVariants as number
use Rattle.rsp_number.specs.declared.reading.Reading.{Reading}
use Rattle.rsp_expr.specs.BooleanValues.{boolean_reading, is_filled, numeric_value}
use Rattle.rsp_expr.specs.Forms.{reading_map, whole_reading}
use Rattle.rsp_expr.specs.declared.datatypes.WholeType.{WholeType}
use Rattle.rsp_expr.specs.declared.datatypes.WholeType.TheVariants.{Integer, NonPositiveInteger, NegativeInteger, Long, Int}
use Rattle.rsp_expr.specs.declared.datatypes.WholeType.TheVariants.{Short, Byte, NonNegativeInteger, UnsignedLong, UnsignedInt}
use Rattle.rsp_expr.specs.declared.datatypes.WholeType.TheVariants.{UnsignedShort, UnsignedByte, PositiveInteger}
use Rattle.rsp_expr.specs.declared.datatypes.Datatype.{Datatype}
use Rattle.rsp_expr.specs.declared.datatypes.Datatype.TheVariants.{Whole, Decimal, Double, Float, Boolean, String, LangString}
use Rattle.rsp_expr.specs.declared.datatypes.Datatype.TheVariants.{Other}

-- the types of whole numbers, by their IRIs: first those without a number below 0, then all
abbrev pub unsigned_types : List (List ℕ × WholeType)
unsigned_types =
    (codes "http://www.w3.org/2001/XMLSchema#nonNegativeInteger", NonNegativeInteger)
    ∷ (codes "http://www.w3.org/2001/XMLSchema#positiveInteger", PositiveInteger)
    ∷ (codes "http://www.w3.org/2001/XMLSchema#unsignedLong", UnsignedLong)
    ∷ (codes "http://www.w3.org/2001/XMLSchema#unsignedInt", UnsignedInt)
    ∷ (codes "http://www.w3.org/2001/XMLSchema#unsignedShort", UnsignedShort)
    ∷ (codes "http://www.w3.org/2001/XMLSchema#unsignedByte", UnsignedByte)
    ∷ []

abbrev pub known_whole_types : List (List ℕ × WholeType)
known_whole_types =
    (codes "http://www.w3.org/2001/XMLSchema#integer", Integer)
    ∷ (codes "http://www.w3.org/2001/XMLSchema#long", Long)
    ∷ (codes "http://www.w3.org/2001/XMLSchema#int", Int)
    ∷ (codes "http://www.w3.org/2001/XMLSchema#short", Short)
    ∷ (codes "http://www.w3.org/2001/XMLSchema#byte", Byte)
    ∷ (codes "http://www.w3.org/2001/XMLSchema#nonPositiveInteger", NonPositiveInteger)
    ∷ (codes "http://www.w3.org/2001/XMLSchema#negativeInteger", NegativeInteger)
    ∷ unsigned_types

-- the others that are known
abbrev pub other_types : List (List ℕ × Datatype)
other_types =
    (codes "http://www.w3.org/2001/XMLSchema#string", String)
    ∷ (codes "http://www.w3.org/2001/XMLSchema#decimal", Decimal)
    ∷ (codes "http://www.w3.org/2001/XMLSchema#boolean", Boolean)
    ∷ (codes "http://www.w3.org/2001/XMLSchema#double", Double)
    ∷ (codes "http://www.w3.org/2001/XMLSchema#float", Float)
    ∷ (codes "http://www.w3.org/1999/02/22-rdf-syntax-ns#langString", LangString)
    ∷ []

-- what stands beside the IRI
abbrev pub type_in : {T : Type 0} → List (List ℕ × T) → List ℕ → Option T
type_in [] iri = None
type_in (entry ∷ entries) iri = if bytes_eq iri entry.0 then Some entry.1 else type_in entries iri

abbrev pub datatype_among : Option WholeType → Option Datatype → Datatype
datatype_among (Some whole) other = Whole whole
datatype_among None (Some other) = other
datatype_among None None = Other

abbrev pub datatype_of : List ℕ → Datatype
datatype_of iri = datatype_among (type_in known_whole_types iri) (type_in other_types iri)

-- the least and the greatest number of a type, where it has one
abbrev pub bounds_of : WholeType → Option ℤ × Option ℤ
bounds_of Integer = (None, None)
bounds_of NonPositiveInteger = (None, Some (pos 0))
bounds_of NegativeInteger = (None, Some (neg_ℤ (pos 1)))
bounds_of Long = (Some (neg_ℤ (pos (2 ^ 63))), Some (pos (2 ^ 63 - 1)))
bounds_of Int = (Some (neg_ℤ (pos (2 ^ 31))), Some (pos (2 ^ 31 - 1)))
bounds_of Short = (Some (neg_ℤ (pos (2 ^ 15))), Some (pos (2 ^ 15 - 1)))
bounds_of Byte = (Some (neg_ℤ (pos (2 ^ 7))), Some (pos (2 ^ 7 - 1)))
bounds_of NonNegativeInteger = (Some (pos 0), None)
bounds_of UnsignedLong = (Some (pos 0), Some (pos (2 ^ 64 - 1)))
bounds_of UnsignedInt = (Some (pos 0), Some (pos (2 ^ 32 - 1)))
bounds_of UnsignedShort = (Some (pos 0), Some (pos (2 ^ 16 - 1)))
bounds_of UnsignedByte = (Some (pos 0), Some (pos (2 ^ 8 - 1)))
bounds_of PositiveInteger = (Some (pos 1), None)

-- ---- literals of a datatype

abbrev pub typed_reading : Datatype → List ℕ → Option (Reading Number)
typed_reading (Whole type) text = Some (reading_map number.Integer (whole_reading (bounds_of type) text))
typed_reading Decimal text = Some (reading_map number.Decimal (read_decimal text))
typed_reading type text = None

abbrev pub typed_boolean : Datatype → List ℕ → Option Bool
typed_boolean Boolean text = boolean_reading text
typed_boolean type text = None

abbrev pub typed_value : Datatype → List ℕ → Option Bool
typed_value Boolean text = Some (unwrap_or (boolean_reading text) false)
typed_value String text = Some (is_filled text)
typed_value type text = numeric_value (typed_reading type text)

abbrev pub typed_string : Datatype → List ℕ → Option (List ℕ)
typed_string String text = Some text
typed_string type text = None

abbrev pub is_floating : Datatype → Bool
is_floating Double = true
is_floating Float = true
is_floating type = false
