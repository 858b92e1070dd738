-- Definitions: a report as one line of JSON: the text of an object (after SPARQL 1.1 Query Results JSON Format, section 3). The
-- members of each object stand in the byte order of their keys; `vars` keeps the order of the columns.
use Rattle.std.specs.Prelude.{ℕ, if◌then◌else◌, List, ◌++◌, Option, None, Some, drop, fold, map, zip, bytes_eq, codes}
use Rattle.serde_json.specs.Data.{Data, number, unsigned, string, array, object, Members, member, no_members, put}
use Rattle.serde_json.specs.View.{items_of}
use Rattle.serde_json.specs.Written.{compact_text}
use Rattle.rsp_terms.specs.declared.term.Term.{Term}
use Rattle.rsp_terms.specs.declared.term.Term.TheVariants.{Iri, Blank, Literal, Tagged}
use Rattle.rsp_terms.specs.Terms.{term_text, xsd_string}
use Rattle.rsp_multiset.specs.Rows.{Cells}

-- `type` and `value`
abbrev pub typed : List ℕ → List ℕ → Members
typed kind value = member (codes "type") (string kind) (member (codes "value") (string value) no_members)

-- the members of a literal: with its datatype, unless that is xsd:string
abbrev pub literal_members : List ℕ → List ℕ → Members
literal_members lexical datatype =
    if bytes_eq datatype xsd_string
    then typed (codes "literal") lexical
    else member (codes "datatype") (string datatype) (typed (codes "literal") lexical)

-- a term (section 3.2.2). The value of a blank node is its printed text without `_:`.
abbrev pub term_data : Term → Data
term_data (Iri text) = object (typed (codes "uri") text)
term_data (Blank document label) = object (typed (codes "bnode") (drop 2 (term_text (Blank document label))))
term_data (Literal lexical datatype) = object (literal_members lexical datatype)
term_data (Tagged lexical language) =
    object
    (member (codes "type") (string (codes "literal"))
    (member (codes "value") (string lexical) (member (codes "xml:lang") (string language) no_members)))

-- with the variable's binding; an unbound one has no key
abbrev pub with_cell : Members → List ℕ → Option Term → Members
with_cell members name None = members
with_cell members name (Some term) = put name (term_data term) members

-- the bindings of the variables that have a cell, pair by pair
abbrev pub row_data : List (List ℕ) → Cells Term → Data
row_data variables row = object (fold (λ members pair. with_cell members pair.0 pair.1) no_members (zip variables row))

-- the whole report: `at`, `head` with `vars`, `query`, `results` with `bindings`
abbrev pub report_data : List ℕ → ℕ → List (List ℕ) → List (Cells Term) → Data
report_data name at variables rows =
    object
    (member (codes "at") (number (unsigned at))
    (member (codes "head") (object (member (codes "vars") (array (items_of (map string variables))) no_members))
    (member (codes "query") (string name)
    (member (codes "results")
    (object (member (codes "bindings") (array (items_of (map (row_data variables) rows))) no_members))
    no_members))))

abbrev pub report_json : List ℕ → ℕ → List (List ℕ) → List (Cells Term) → List ℕ
report_json name at variables rows = compact_text (report_data name at variables rows) ++ codes "\n"
