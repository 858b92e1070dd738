-- Words of the way: how a line is read, part by part.
use Rattle.std.specs.Prelude.{ℕ, ◌+◌, ◌-◌, Bool, true, ◌&&◌, ◌==◌, if◌then◌else◌, Option, None, Some, List, [], ◌∷◌, length}
use Rattle.std.specs.List.{find, cons_option}
use Rattle.std.specs.Option.{option_map, option_map_or}
use Rattle.std.specs.Str.{byte, is_utf8}
use Rattle.std.specs.declared.result.Result.{Result}
use Rattle.std.specs.declared.result.Result.TheVariants.{Ok, Err}
use Rattle.rsp_terms.specs.declared.term.Term.{Term}
use Rattle.rsp_terms.specs.declared.statement.Quad.{Quad}
use Rattle.rsp_nquads.specs.declared.statements.Part.{Part}
use Rattle.rsp_nquads.specs.declared.statements.Parts.{Parts}
use Rattle.rsp_scan.specs.Enclosed.{sign}
use Rattle.rsp_scan.specs.Readers.{PartReader}
use Rattle.rsp_nquads.specs.Parts.{iri_term, node, object}
use Rattle.rsp_text.specs.Fronts.{behind_blanks}
use Rattle.rsp_nquads.specs.Grammar.{is_relative}
use Rattle.rsp_nquads.specs.Answers.{Answer, nothing, statement, bad_statement, relative_iri}

-- The wanted part behind blanks: a term, and how many bytes of the line are left from its first one on. Where it doesn't
-- stand there, how many bytes are left from there on.
abbrev pub part_of : PartReader Term → List ℕ → Result (Part × List ℕ) ℕ
part_of reader text =
    let here = behind_blanks text in
    option_map_or (λ x. Ok (record { term = x.0; left = length here }, x.1)) (reader here) (Err (length here))

-- the same of a part that may be wanting
abbrev pub optional_part : PartReader Term → List ℕ → Option Part × List ℕ
optional_part reader text =
    let here = behind_blanks text in
    option_map_or (λ x. (Some (record { term = x.0; left = length here }), x.1)) (reader here) (None, text)

-- the line ends here, or a comment goes on to its end
unfoldable pub is_end : List ℕ → Bool
is_end [] = true
is_end (c ∷ text) = (c == byte "#") && is_utf8 text

-- `.`, and the end behind blanks
abbrev pub ends : List ℕ → Result Bool ℕ
ends text = if is_end (behind_blanks text) then Ok true else Err (length (behind_blanks text))

abbrev pub closes : List ℕ → Result Bool ℕ
closes text = option_map_or ends (sign (byte ".") (behind_blanks text)) (Err (length (behind_blanks text)))

-- a reading, and what is read behind it; the first fault stays
abbrev pub onward : {A B : Type 0} → Result A ℕ → (A → Result B ℕ) → Result B ℕ
onward (Ok x) f = f x
onward (Err left) f = Err left

-- subject, predicate, object, and a graph where one is named
unfoldable pub parts_of : ℕ → List ℕ → Result Parts ℕ
parts_of document line =
    onward (part_of (node document) line) (λ s.
    onward (part_of iri_term s.1) (λ p.
    onward (part_of (object document) p.1) (λ o.
    let g = optional_part (node document) o.1 in
    onward (closes g.1) (λ _.
    Ok (record { subject = s.0; predicate = p.0; object = o.0; graph = g.0 })))))

abbrev pub quad_of : Parts → Quad
quad_of parts = record {
  triple = record { subject = parts.subject.term; predicate = parts.predicate.term; object = parts.object.term };
  graph = option_map (λ part. part.term) parts.graph;
}

-- columns count bytes, from 1
abbrev pub column : List ℕ → ℕ → ℕ
column line left = length line - left + 1

abbrev pub first_relative : Parts → Option Part
first_relative parts =
    find (λ part. is_relative part.term) (parts.subject ∷ parts.predicate ∷ parts.object ∷ cons_option parts.graph [])

-- a statement by its grammar: the first part that holds a relative IRI is its fault
abbrev pub judged : List ℕ → Parts → Answer
judged line parts =
    option_map_or (λ part. relative_iri (column line part.left)) (first_relative parts) (statement (quad_of parts))

abbrev pub answer : List ℕ → Result Parts ℕ → Answer
answer line (Ok parts) = judged line parts
answer line (Err left) = bad_statement (column line left)

unfoldable pub statement_of : ℕ → List ℕ → Answer
statement_of document line = if is_end (behind_blanks line) then nothing else answer line (parts_of document line)
