-- Worked rows: reports as JSON.
use Rattle.std.specs.Prelude.{◌≡◌, refl, ℕ, Some, None, List, [], ◌∷◌, ◌++◌, codes}
use Rattle.std.specs.Fmt.{digits}
use Rattle.serde_json.specs.Written.{compact_text}
use Rattle.serde_json.proofs.OnLiterals.{serde_json_on_literals}
use Rattle.rsp_terms.specs.declared.term.Term.{Term}
use Rattle.rsp_terms.specs.declared.term.Term.TheVariants.{Iri, Blank, Literal, Tagged}
use Rattle.rsp_terms.specs.Terms.{xsd_string}
use Rattle.rsp_streams_out.specs.Json.{term_data, row_data, report_json}

-- a term's text
abbrev text : Term → List ℕ
text term = compact_text (term_data term)

iri : text (Iri (codes "a:1/2")) ≡ codes "{\"type\":\"uri\",\"value\":\"a:1/2\"}"
unfolding serde_json_on_literals
iri = refl

-- printed as `_:b3xk`
blank_node : text (Blank 3 (codes "k")) ≡ codes "{\"type\":\"bnode\",\"value\":\"b3xk\"}"
unfolding digits serde_json_on_literals
blank_node = refl

plain : text (Literal (codes "say \"no\"") xsd_string) ≡ codes "{\"type\":\"literal\",\"value\":\"say \\\"no\\\"\"}"
unfolding serde_json_on_literals
plain = refl

typed : text (Literal (codes "4") (codes "d:t")) ≡ codes "{\"datatype\":\"d:t\",\"type\":\"literal\",\"value\":\"4\"}"
unfolding serde_json_on_literals
typed = refl

tagged : text (Tagged (codes "a\tb") (codes "en")) ≡ codes "{\"type\":\"literal\",\"value\":\"a\\tb\",\"xml:lang\":\"en\"}"
unfolding serde_json_on_literals
tagged = refl

-- the keys of a row stand in the order of their bytes, and `vars` in that of the columns; an unbound variable has no key
whole :
    report_json (codes "q") 10000 (codes "s" ∷ codes "o" ∷ [])
    ((Some (Iri (codes "a:1")) ∷ Some (Literal (codes "5") xsd_string) ∷ []) ∷ (Some (Iri (codes "a:2")) ∷ None ∷ []) ∷ [])
    ≡ codes "{\"at\":10000,\"head\":{\"vars\":[\"s\",\"o\"]},\"query\":\"q\",\"results\":{\"bindings\":["
    ++ (codes "{\"o\":{\"type\":\"literal\",\"value\":\"5\"},\"s\":{\"type\":\"uri\",\"value\":\"a:1\"}},"
    ++ codes "{\"s\":{\"type\":\"uri\",\"value\":\"a:2\"}}]}}\n")
unfolding digits serde_json_on_literals
whole = refl

-- a report without rows; rows without columns
no_rows : report_json (codes "q") 10 (codes "s" ∷ []) []
    ≡ codes "{\"at\":10,\"head\":{\"vars\":[\"s\"]},\"query\":\"q\",\"results\":{\"bindings\":[]}}\n"
unfolding digits serde_json_on_literals
no_rows = refl

no_columns : report_json (codes "q") 10 [] ([] ∷ [] ∷ [])
    ≡ codes "{\"at\":10,\"head\":{\"vars\":[]},\"query\":\"q\",\"results\":{\"bindings\":[{},{}]}}\n"
unfolding digits serde_json_on_literals
no_columns = refl

-- of two columns of one name the later one that is bound counts
one_name : row_data (codes "s" ∷ codes "s" ∷ []) (Some (Iri (codes "a:1")) ∷ Some (Iri (codes "a:2")) ∷ [])
    ≡ row_data (codes "s" ∷ []) (Some (Iri (codes "a:2")) ∷ [])
one_name = refl
