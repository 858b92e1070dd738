-- Definitions: how a number is written (XML Schema Definition Language 1.1 Part 2, sections 3.3.3 and 3.4.13), and the
-- literal of it.
use Rattle.std.specs.Prelude.{ℕ, zero, suc, ◌+◌, ◌/◌, ◌%◌, ◌^◌, ℤ, unsigned_abs, if◌then◌else◌, List, [], ◌∷◌, ◌++◌, codes}
use Rattle.std.specs.Fmt.{decimal}
use Rattle.rsp_number.specs.Decimals.{is_below_zero}
use Rattle.rsp_number.specs.declared.number.Number.{Number}
use Rattle.rsp_number.specs.declared.number.Number.TheVariants.{Integer, Decimal}
use Rattle.rsp_terms.specs.declared.term.Term.{Term}
use Rattle.rsp_terms.specs.declared.term.Term.TheVariants.{Literal}

abbrev pub sign_text : ℤ → List ℕ
sign_text n = if is_below_zero n then codes "-" else []

-- the last digits of a number, so many as the count
abbrev pub last_digits : ℕ → ℕ → List ℕ
last_digits zero n = []
last_digits (suc count) n = last_digits count (n / 10) ++ ((48 + n % 10) ∷ [])

-- a point and the digits behind it, of a size that counts units of the last of them; nothing where there are none
abbrev pub fraction_text : ℕ → ℕ → List ℕ
fraction_text zero size = []
fraction_text (suc scale) size = codes "." ++ last_digits (suc scale) size

-- at least one digit stands before the point
abbrev pub size_text : ℕ → ℕ → List ℕ
size_text scale size = decimal (size / 10 ^ scale) ++ fraction_text scale size

abbrev pub numeral : Number → List ℕ
numeral (Integer n) = sign_text n ++ decimal (unsigned_abs n)
numeral (Decimal d) = sign_text d.coefficient ++ size_text d.scale (unsigned_abs d.coefficient)

abbrev pub numeral_type : Number → List ℕ
numeral_type (Integer n) = codes "http://www.w3.org/2001/XMLSchema#integer"
numeral_type (Decimal d) = codes "http://www.w3.org/2001/XMLSchema#decimal"

-- the literal that a result with this number is
abbrev pub numeral_literal : Number → Term
numeral_literal number = Literal (numeral number) (numeral_type number)
