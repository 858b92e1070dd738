-- Worked lines, by the definitions alone.
use Rattle.std.proofs.Common.{◌≡◌, refl, ℕ, List, ◌∷◌, [], ◌++◌, map}
use Rattle.std.specs.Prelude.{codes, None, Some}
use Rattle.std.specs.Char.{encode_utf8}
use Rattle.std.specs.Str.{chars, is_utf8}
use Rattle.std.specs.Str.Lossy.{utf8_valid_len}
use Rattle.rsp_terms.specs.declared.term.Term.{Term}
use Rattle.rsp_terms.specs.declared.term.Term.TheVariants.{Iri, Blank, Literal, Tagged}
use Rattle.rsp_terms.specs.Terms.{xsd_string}
use Rattle.rsp_scan.specs.Enclosed.{sign}
use Rattle.rsp_scan.specs.Readers.{uchar, echar, iri_escape, string_escape, spelled, enclosed, label, tag, iri, string}
use Rattle.rsp_nquads.specs.Parts.{datatype, literal_of, literal, node, object}
use Rattle.rsp_nquads.specs.Statements.{statement_of, parts_of, is_end}
use Rattle.rsp_nquads.specs.Answers.{Answer, nothing, statement, bad_statement, relative_iri}

-- ---- what is read

-- `<a:1> <p:v>` and this object, in the default graph
abbrev quad_to : Term → Answer
quad_to object = statement (record {
  triple = record { subject = Iri (codes "a:1"); predicate = Iri (codes "p:v"); object = object };
  graph = None;
})

abbrev answers : List (List ℕ) → List Answer
answers objects = map (λ object. statement_of 1 (codes "<a:1> <p:v> " ++ object)) objects

-- a line with a label, a tag, an escape and a comment; `\t` is two characters
pub worked : statement_of 1 (codes "_:x <p:v> \"a\\tb\"@en . # note") ≡ statement (record {
  triple = record { subject = Blank 1 (codes "x"); predicate = Iri (codes "p:v"); object = Tagged (97 ∷ 9 ∷ 98 ∷ []) (codes "en") };
  graph = None;
})
unfolding statement_of is_end parts_of uchar echar iri_escape string_escape spelled sign iri string enclosed label tag datatype literal_of literal node object chars is_utf8 utf8_valid_len encode_utf8
worked = refl

-- no blank need stand between parts; a graph; a comment directly behind the dot
pub without_blanks : statement_of 7 (codes "<a:1><p:v>\"x\"_:g.#") ≡ statement (record {
  triple = record { subject = Iri (codes "a:1"); predicate = Iri (codes "p:v"); object = Literal (codes "x") xsd_string };
  graph = Some (Blank 7 (codes "g"));
})
unfolding statement_of is_end parts_of uchar echar iri_escape string_escape spelled sign iri string enclosed label tag datatype literal_of literal node object chars is_utf8 utf8_valid_len encode_utf8
without_blanks = refl

-- objects: escapes in an IRI and a string, a label with a colon, one whose last dot ends the statement, blanks round
-- `^^` and before a tag, a tag of two parts, byte 0 in a string
pub objects : answers
    (codes "<a:\\u0042>." ∷ codes "\"\\\"\\U0001F600\\\\\" ." ∷ codes "_:a:b." ∷ codes "_:a.b.." ∷ codes "\"1\" ^^ <x:i> ."
    ∷ codes "\"x\" @de-AT ." ∷ (codes "\"" ++ (0 ∷ codes "\".")) ∷ (codes "\"" ++ (0xC3 ∷ 0xA9 ∷ codes "\".")) ∷ [])
    ≡ map quad_to (Iri (codes "a:B") ∷ Literal (34 ∷ 0xF0 ∷ 0x9F ∷ 0x98 ∷ 0x80 ∷ 92 ∷ []) xsd_string ∷ Blank 1 (codes "a:b") ∷ [])
    ++ bad_statement 19 ∷ map quad_to (Literal (codes "1") (codes "x:i") ∷ Tagged (codes "x") (codes "de-AT") ∷ Literal (0 ∷ []) xsd_string
    ∷ Literal (0xC3 ∷ 0xA9 ∷ []) xsd_string ∷ [])
unfolding statement_of is_end parts_of uchar echar iri_escape string_escape spelled sign iri string enclosed label tag datatype literal_of literal node object chars is_utf8 utf8_valid_len encode_utf8
objects = refl

-- blank lines and comments
pub nothings : map (statement_of 1) ([] ∷ (32 ∷ 9 ∷ []) ∷ codes "#" ∷ codes "  # <a:1>" ∷ []) ≡ nothing ∷ nothing ∷ nothing ∷ nothing ∷ []
unfolding statement_of is_end is_utf8 chars encode_utf8
nothings = refl

-- ---- faults

-- a wanting object, dot or predicate; a literal as subject, a blank node as predicate, a fifth part, a text behind the dot
pub wanting : map (statement_of 1)
    (codes "<a:1> <p:v> ." ∷ codes "<a:1> <p:v> <a:2>" ∷ codes "<a:1>  " ∷ codes "\"x\" <p:v> <a:2> ." ∷ codes "<a:1> _:p <a:2> ."
    ∷ codes "<a:1> <p:v> <a:2> <g:1> <g:2> ." ∷ codes "<a:1> <p:v> <a:2> . x" ∷ [])
    ≡ map bad_statement (13 ∷ 18 ∷ 8 ∷ 1 ∷ 7 ∷ 25 ∷ 21 ∷ [])
unfolding statement_of is_end parts_of uchar echar iri_escape string_escape spelled sign iri string enclosed label tag datatype literal_of literal node object chars is_utf8 utf8_valid_len encode_utf8
wanting = refl

-- bytes that aren't UTF-8 in an IRI, a string, a label, a comment of a statement and one of a blank line
pub other_bytes : map (statement_of 1)
    ((codes "<a:" ++ (0xFF ∷ codes "> <p:v> <a:2> .")) ∷ (codes "<a:1> <p:v> \"" ++ (0xC3 ∷ codes "\" .")) ∷ (codes "_:a" ++ (0xC3 ∷ codes " <p:v> <a:2> ."))
    ∷ (codes "<a:1> <p:v> <a:2> . # " ++ (0xFF ∷ [])) ∷ (codes "# " ++ (0xFF ∷ [])) ∷ [])
    ≡ map bad_statement (1 ∷ 13 ∷ 4 ∷ 21 ∷ 1 ∷ [])
unfolding statement_of is_end parts_of uchar echar iri_escape string_escape spelled sign iri string enclosed label tag datatype literal_of literal node object chars is_utf8 utf8_valid_len encode_utf8
other_bytes = refl

-- objects: a surrogate, a number past 10FFFF, three digits; an escape that names no IRI character, an ECHAR in an IRI; an
-- unclosed string, one with a line feed, an unknown escape; `_:` alone, a label that begins with a dot; byte 0
pub refused_objects : answers
    (codes "\"\\uD800\" ." ∷ codes "\"\\U00110000\" ." ∷ codes "\"\\u12\" ." ∷ codes "<a:\\u0020> ." ∷ codes "<a:\\t> ." ∷ codes "\"x ."
    ∷ (codes "\"x" ++ (10 ∷ codes "\" .")) ∷ codes "\"\\x\" ." ∷ codes "_: ." ∷ codes "_:.a ." ∷ (0 ∷ []) ∷ codes "<a: 1> ." ∷ [])
    ≡ map bad_statement (13 ∷ 13 ∷ 13 ∷ 13 ∷ 13 ∷ 13 ∷ 13 ∷ 13 ∷ 13 ∷ 13 ∷ 13 ∷ 13 ∷ [])
unfolding statement_of is_end parts_of uchar echar iri_escape string_escape spelled sign iri string enclosed label tag datatype literal_of literal node object chars is_utf8 utf8_valid_len encode_utf8
refused_objects = refl

-- behind a string: no datatype, no tag, a digit and a hyphen behind the longest tag; blanks before the wrong `^^`
pub broken_literals : answers
    (codes "\"x\"^^5 ." ∷ codes "\"x\"@ ." ∷ codes "\"x\"@e1 ." ∷ codes "\"x\"@en- ." ∷ codes "\"x\" ^^ 5 ." ∷ codes "\"x\"^ ." ∷ [])
    ≡ map bad_statement (16 ∷ 16 ∷ 18 ∷ 19 ∷ 17 ∷ 16 ∷ [])
unfolding statement_of is_end parts_of uchar echar iri_escape string_escape spelled sign iri string enclosed label tag datatype literal_of literal node object chars is_utf8 utf8_valid_len encode_utf8
broken_literals = refl

-- the first part that holds a relative IRI, but only in a statement
pub relative_iris : map (statement_of 1)
    (codes "<a> <p:v> <a:2> ." ∷ codes "<a:1> <p:v> \"x\"^^<i> <g> ." ∷ codes "<a:1> <p:v> _:x <> ." ∷ codes "<a> <p:v> <a:2>" ∷ codes "<1:a> <p:v> <a:2> ." ∷ [])
    ≡ relative_iri 1 ∷ relative_iri 13 ∷ relative_iri 17 ∷ bad_statement 16 ∷ relative_iri 1 ∷ []
unfolding statement_of is_end parts_of uchar echar iri_escape string_escape spelled sign iri string enclosed label tag datatype literal_of literal node object chars is_utf8 utf8_valid_len encode_utf8
relative_iris = refl
