-- Definitions: strings (SPARQL 1.1, section 17.4.3.1), and the literals that have an inexact number.
use Rattle.std.specs.Prelude.{ℕ, Bool, false, ◌||◌, Option, None, List, codes}
use Rattle.std.specs.Bool.{then_some}
use Rattle.std.specs.Str.{bytes_eq}
use Rattle.rsp_terms.specs.declared.term.Term.{Term}
use Rattle.rsp_terms.specs.declared.term.Term.TheVariants.{Literal}

-- the text of an xsd:string
abbrev pub string_of : Term → Option (List ℕ)
string_of (Literal lexical datatype) = then_some (bytes_eq datatype (codes "http://www.w3.org/2001/XMLSchema#string")) lexical
string_of term = None

abbrev pub string_literal : List ℕ → Term
string_literal text = Literal text (codes "http://www.w3.org/2001/XMLSchema#string")

-- a literal of double or float
abbrev pub is_inexact : Term → Bool
is_inexact (Literal lexical datatype) =
    bytes_eq datatype (codes "http://www.w3.org/2001/XMLSchema#double")
    || bytes_eq datatype (codes "http://www.w3.org/2001/XMLSchema#float")
is_inexact term = false
