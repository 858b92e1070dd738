-- Worked files, by the definitions alone.
use Rattle.std.proofs.Common.{arith, ◌≡◌, ℕ, List, [], ◌∷◌, ◌++◌, refl}
use Rattle.std.specs.Prelude.{None, Some, codes}
use Rattle.std.specs.Char.{encode_utf8}
use Rattle.std.specs.Str.{chars, is_utf8}
use Rattle.std.specs.Str.Lossy.{utf8_valid_len}
use Rattle.rsp_terms.specs.declared.term.Term.TheVariants.{Blank, Iri, Literal}
use Rattle.rsp_terms.specs.declared.statement.Triple.{Triple}
use Rattle.rsp_text.specs.Digits.{read_u64, has_form, fraction}
use Rattle.rsp_text.specs.Instants.{instant, is_date_time, minutes_ahead}
use Rattle.rsp_scan.specs.Enclosed.{sign}
use Rattle.rsp_scan.specs.Readers.{enclosed, iri_escape, label, spelled, tag, uchar, echar, string_escape, iri, string}
use Rattle.rsp_nquads.specs.Parts.{datatype, literal, literal_of, node, object}
use Rattle.rsp_nquads.specs.Statements.{is_end, parts_of, statement_of}
use Rattle.rsp_events.specs.declared.event.Event.{Event}
use Rattle.rsp_events.specs.declared.event.Event.TheVariants.{Item, Tick}
use Rattle.rsp_events.specs.declared.refused.LineRefused.{LineRefused}
use Rattle.rsp_events.specs.declared.refused.RefusedAs.TheVariants.{BadStatement, NoTimeLine, RelativeIri}
use Rattle.rsp_events.specs.declared.recording.RecordedItems.{RecordedItems}
use Rattle.rsp_events.specs.Files.{loaded}
use Rattle.rsp_events.specs.Merged.{merged}
use Rattle.rsp_events.proofs.Listing.{merged_is}
use Rattle.rsp_events.specs.Recorded.{recorded, generated_at_time, time_in}

-- ---- what the rows speak of

abbrev line : List ℕ → List ℕ
line text = text ++ (10 ∷ [])

-- a statement of the time predicate, with what stands behind the time
abbrev timed : List ℕ → List ℕ → List ℕ → List ℕ
timed name time behind =
    line (name ++ (codes " <http://www.w3.org/ns/prov#generatedAtTime> \"" ++ (time ++ (codes "\"" ++ (behind ++ codes " .")))))

abbrev integer : List ℕ
integer = codes "^^<http://www.w3.org/2001/XMLSchema#integer>"

abbrev at : List ℕ → List ℕ → List ℕ
at name time = timed name time integer

-- <a:n> <p:v> <a:0>, for a digit n, in a graph
abbrev quad : List ℕ → List ℕ → List ℕ
quad n graph = line (codes "<a:" ++ (n ++ (codes "> <p:v> <a:0> " ++ (graph ++ codes "."))))

abbrev triple : List ℕ → Triple
triple n = record { subject = Iri (codes "a:" ++ n); predicate = Iri (codes "p:v"); object = Iri (codes "a:0") }

abbrev item : ℕ → List Triple → Event
item time graph = Item (codes "s:a") time graph

abbrev neither : ℕ → LineRefused
neither n = record { line = n; fault = NoTimeLine }

abbrev read : List Event → List LineRefused → RecordedItems
read events lines = record { items = events; refused = lines }

-- ---- recorded streams

-- times may fall; a triple that is stated twice stands twice; an item without quads counts; a name may be a blank node
pub in_order_of_time_lines : recorded (codes "s:a") 7
    (at (codes "<g:1>") (codes "9") ++ (quad (codes "1") (codes "<g:1>") ++ (quad (codes "1") (codes "<g:1>") ++ at (codes "_:g") (codes "5"))))
    ≡ read (item 9 (triple (codes "1") ∷ triple (codes "1") ∷ []) ∷ item 5 [] ∷ []) []
unfolding statement_of is_end parts_of iri_escape uchar spelled sign iri string enclosed label tag echar string_escape datatype literal_of literal node object chars is_utf8 utf8_valid_len encode_utf8 read_u64
in_order_of_time_lines = refl

-- a quad of an earlier item is refused; a name that is opened again is a new item
pub last_opened_counts : recorded (codes "s:a") 7
    (quad (codes "1") (codes "<g:1>") ++ (at (codes "<g:1>") (codes "1") ++ (at (codes "<g:2>") (codes "2") ++ (quad (codes "1") (codes "<g:1>")
    ++ (at (codes "<g:1>") (codes "3") ++ quad (codes "2") (codes "<g:1>"))))))
    ≡ read (item 1 [] ∷ item 2 [] ∷ item 3 (triple (codes "2") ∷ []) ∷ []) (neither 1 ∷ neither 4 ∷ [])
unfolding statement_of is_end parts_of iri_escape uchar spelled sign iri string enclosed label tag echar string_escape datatype literal_of literal node object chars is_utf8 utf8_valid_len encode_utf8 read_u64
last_opened_counts = refl

-- a time without a datatype, one with a sign, one past the year 9999: each is refused, and the open item stays open
pub time_not_read : recorded (codes "s:a") 7
    (at (codes "<g:1>") (codes "1") ++ (timed (codes "<g:2>") (codes "2") [] ++ (at (codes "<g:2>") (codes "+2")
    ++ (at (codes "<g:2>") (codes "253402300800000") ++ quad (codes "1") (codes "<g:1>")))))
    ≡ read (item 1 (triple (codes "1") ∷ []) ∷ []) (neither 2 ∷ neither 3 ∷ neither 4 ∷ [])
unfolding statement_of is_end parts_of iri_escape uchar spelled sign iri string enclosed label tag echar string_escape datatype literal_of literal node object chars is_utf8 utf8_valid_len encode_utf8 read_u64
time_not_read = refl

-- the time predicate in the graph of the open item is a triple of it
pub time_in_graph : recorded (codes "s:a") 7
    (at (codes "<g:1>") (codes "1") ++ timed (codes "<g:2>") (codes "2") (integer ++ codes " <g:1>"))
    ≡ read (item 1 (record {
      subject = Iri (codes "g:2");
      predicate = generated_at_time;
      object = Literal (codes "2") (codes "http://www.w3.org/2001/XMLSchema#integer");
    } ∷ []) ∷ []) []
unfolding statement_of is_end parts_of iri_escape uchar spelled sign iri string enclosed label tag echar string_escape datatype literal_of literal node object chars is_utf8 utf8_valid_len encode_utf8 read_u64
time_in_graph = refl

-- a date and time, which no number of digits is, nor the other way round
pub date_and_time : time_in (Literal (codes "2024-01-01T01:00:00.5+01:00") (codes "http://www.w3.org/2001/XMLSchema#dateTime"))
    ≡ instant (codes "2024-01-01T01:00:00.5+01:00")
date_and_time = refl

pub no_digits : time_in (Literal (codes "2024-01-01T01:00:00Z") (codes "http://www.w3.org/2001/XMLSchema#integer")) ≡ None
unfolding read_u64
no_digits = refl

pub no_date : time_in (Literal (codes "1704067200500") (codes "http://www.w3.org/2001/XMLSchema#dateTime")) ≡ None
unfolding instant is_date_time minutes_ahead has_form fraction
no_date = refl

-- comments and blank lines count; a line that is no statement changes nothing else; the last line has no line feed
pub numbers_and_columns : recorded (codes "s:a") 7
    (line (codes "# note") ++ (at (codes "<g:1>") (codes "1") ++ (line [] ++ (line (codes "<a:1> .") ++ (line (codes "<a:1> <p> <a:1> <g:1> .")
    ++ (quad (codes "1") [] ++ codes "<a:2> <p:v> <a:0> <g:1> ."))))))
    ≡ read (item 1 (triple (codes "2") ∷ []) ∷ [])
    (record { line = 4; fault = BadStatement 7 } ∷ record { line = 5; fault = RelativeIri 7 } ∷ neither 6 ∷ [])
unfolding statement_of is_end parts_of iri_escape uchar spelled sign iri string enclosed label tag echar string_escape datatype literal_of literal node object chars is_utf8 utf8_valid_len encode_utf8 read_u64
numbers_and_columns = refl

-- ---- stored quads

-- quads with and without a graph, a carriage return before a line feed, a line that is refused, labels of the document
pub stored : loaded 7 (quad (codes "1") [] ++ (codes "_:x <p:v> <a:0> _:g ." ++ (13 ∷ line [] ++ (line (codes "<a>") ++ quad (codes "2") (codes "<g:1>")))))
    ≡ record {
      quads = record { triple = triple (codes "1"); graph = None }
          ∷ record { triple = record { subject = Blank 7 (codes "x"); predicate = Iri (codes "p:v"); object = Iri (codes "a:0") }; graph = Some (Blank 7 (codes "g")) }
          ∷ record { triple = triple (codes "2"); graph = Some (Iri (codes "g:1")) } ∷ [];
      refused = record { line = 3; fault = BadStatement 4 } ∷ [];
    }
unfolding statement_of is_end parts_of iri_escape uchar spelled sign iri string enclosed label tag echar string_escape datatype literal_of literal node object chars is_utf8 utf8_valid_len encode_utf8
stored = refl

-- ---- several streams

abbrev on : List ℕ → ℕ → List Triple → Event
on stream time graph = Item stream time graph

-- by time, then by list, then by place; other events are left out
pub by_time_list_and_place : merged
    ((on (codes "s:a") 2 [] ∷ on (codes "s:a") 1 [] ∷ on (codes "s:a") 1 (triple (codes "1") ∷ []) ∷ [])
    ∷ [] ∷ (on (codes "s:b") 1 [] ∷ Tick 1 ∷ on (codes "s:b") 2 [] ∷ on (codes "s:b") 0 [] ∷ []) ∷ [])
    ≡ on (codes "s:b") 0 [] ∷ on (codes "s:a") 1 [] ∷ on (codes "s:a") 1 (triple (codes "1") ∷ []) ∷ on (codes "s:b") 1 []
    ∷ on (codes "s:a") 2 [] ∷ on (codes "s:b") 2 [] ∷ []
by_time_list_and_place =
    merged_is
    ((on (codes "s:a") 2 [] ∷ on (codes "s:a") 1 [] ∷ on (codes "s:a") 1 (triple (codes "1") ∷ []) ∷ [])
    ∷ [] ∷ (on (codes "s:b") 1 [] ∷ Tick 1 ∷ on (codes "s:b") 2 [] ∷ on (codes "s:b") 0 [] ∷ []) ∷ [])
    (omega arith, (omega arith, (omega arith, (omega arith, (omega arith, (omega arith, tt))))))
