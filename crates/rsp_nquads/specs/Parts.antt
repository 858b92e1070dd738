-- Words of the way: how the parts of a statement are read. Each reader gives the value of the part that stands at the
-- front of a text and the text behind it, or nothing where no such part stands there.
use Rattle.std.specs.Prelude.{ℕ, Some, List}
use Rattle.std.specs.Option.{option_and_then, option_or}
use Rattle.std.specs.Str.{byte}
use Rattle.rsp_text.specs.Fronts.{behind_blanks}
use Rattle.rsp_terms.specs.declared.term.Term.{Term}
use Rattle.rsp_terms.specs.declared.term.Term.TheVariants.{Iri, Blank, Literal, Tagged}
use Rattle.rsp_terms.specs.Terms.{xsd_string}
use Rattle.rsp_scan.specs.Enclosed.{sign}
use Rattle.rsp_scan.specs.Readers.{PartReader, told, iri, string, label, tag}

-- `^^`, and an IRI behind blanks
unfoldable pub datatype : PartReader (List ℕ)
datatype text = option_and_then (λ inner. iri (behind_blanks inner)) (option_and_then (sign (byte "^")) (sign (byte "^") text))

-- the literal of a string: its datatype or tag stands behind blanks; without either it is an xsd:string
unfoldable pub literal_of : List ℕ → PartReader Term
literal_of lexical text =
    option_or
    (told (λ name. Literal lexical name) (datatype (behind_blanks text)))
    (option_or
    (told (λ language. Tagged lexical language) (tag (behind_blanks text)))
    (Some (Literal lexical xsd_string, text)))

unfoldable pub literal : PartReader Term
literal text = option_and_then (λ x. literal_of x.0 x.1) (string text)

-- ---- the terms of a statement

abbrev pub iri_term : PartReader Term
iri_term text = told (λ name. Iri name) (iri text)

abbrev pub blank : ℕ → PartReader Term
blank document text = told (λ name. Blank document name) (label text)

-- subjects and graphs
unfoldable pub node : ℕ → PartReader Term
node document text = option_or (iri_term text) (blank document text)

unfoldable pub object : ℕ → PartReader Term
object document text = option_or (node document text) (literal text)
