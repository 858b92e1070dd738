-- Worked texts, by the definitions alone.
use Rattle.std.proofs.Common.{◌≡◌, ℕ, List, [], ◌∷◌, ◌++◌, refl}
use Rattle.std.specs.Prelude.{None, codes}
use Rattle.std.specs.Char.{encode_utf8}
use Rattle.std.specs.Option.{option_map}
use Rattle.std.specs.Str.{chars, is_utf8}
use Rattle.std.specs.Str.Lossy.{utf8_valid_len}
use Rattle.rsp_text.specs.Digits.{read_u64, has_form, fraction}
use Rattle.rsp_text.specs.Instants.{instant, is_date_time, minutes_ahead}
use Rattle.rsp_scan.specs.Enclosed.{sign}
use Rattle.rsp_scan.specs.Readers.{enclosed, iri_escape, label, spelled, tag, uchar, iri, string}
use Rattle.rsp_nquads.specs.Parts.{datatype, literal, literal_of, node, object}
use Rattle.rsp_nquads.specs.Statements.{is_end as is_end_of_line, parts_of, statement_of}
use Rattle.rsp_nquads.specs.Fields.{absolute_iri}
use Rattle.rsp_events.specs.declared.event.Content.TheVariants.{Event, Fault}
use Rattle.rsp_events.specs.declared.event.BlockFault.TheVariants.{BadBody, BadDirective}
use Rattle.rsp_events.specs.declared.event.Event.TheVariants.{Register, Cancel, Insert}
use Rattle.rsp_events.specs.declared.event.Event.TheVariants as event
use Rattle.rsp_events.specs.declared.directives.Directive.TheVariants.{Tick}
use Rattle.rsp_events.specs.Lines.{has_body, is_end, is_passed}
use Rattle.rsp_events.specs.Blocks.{blocks, whole_blocks}
use Rattle.rsp_events.specs.Directives.{directive_by, directive_of, is_name}
use Rattle.rsp_events.specs.Contents.{content_of_directive, content_of_lines, content_of_texts}

abbrev line : List ℕ → List ℕ
line text = text ++ (10 ∷ [])

-- a comment, a query's end, a blank line and a tick without a line feed
pub three_blocks : blocks 7 (line (codes "# log") ++ (line (codes "@cancel q-1") ++ (line (codes " ") ++ codes "@tick 2")))
    ≡ record { number = 1; content = Event (Cancel (codes "q-1")) } ∷ record { number = 2; content = Event (event.Tick 2) } ∷ []
unfolding is_passed has_body is_end content_of_lines content_of_directive directive_by is_name read_u64
three_blocks = refl

-- the tick's line has not ended
pub one_whole : whole_blocks 7 (line (codes "@cancel q") ++ codes "@tick 2")
    ≡ record { number = 1; content = Event (Cancel (codes "q")) } ∷ []
unfolding is_passed has_body is_end content_of_lines content_of_directive directive_by is_name read_u64
one_whole = refl

-- the lines of query text, each with a line feed
pub query_text : content_of_texts 7 1 (codes "@register q" ∷ codes "SELECT" ∷ [] ∷ codes "@end " ∷ [])
    ≡ Event (Register (codes "q") (line (codes "SELECT") ++ (10 ∷ [])))
unfolding is_end content_of_lines content_of_directive directive_by is_name chars is_utf8 encode_utf8
query_text = refl

-- two lines behind the directive, and no `@end`
pub no_end : content_of_texts 7 5 (codes "@register q" ∷ codes "SELECT" ∷ codes "*" ∷ []) ≡ Fault (BadBody 8)
unfolding is_end content_of_lines content_of_directive directive_by is_name chars is_utf8 encode_utf8
no_end = refl

-- a byte that no text has, in the second line of the body
pub not_utf8 : content_of_texts 7 5 (codes "@register q" ∷ codes "SELECT" ∷ (255 ∷ []) ∷ codes "@end" ∷ []) ≡ Fault (BadBody 7)
unfolding is_end content_of_lines content_of_directive directive_by is_name chars is_utf8 encode_utf8
not_utf8 = refl

-- comments and blank lines say nothing
pub no_quads : content_of_texts 7 1 (codes "@insert" ∷ codes "# none" ∷ [] ∷ codes "@end" ∷ []) ≡ Event (Insert [])
unfolding is_end content_of_lines content_of_directive directive_by statement_of is_end_of_line chars is_utf8 encode_utf8
no_quads = refl

-- `@end` outside a body, a blank before a directive, a field too many
pub end_alone : content_of_texts 7 1 (codes "@end" ∷ []) ≡ Fault BadDirective
unfolding content_of_lines directive_by
end_alone = refl

pub blank_before : directive_of (codes " @insert") ≡ None
unfolding directive_by
blank_before = refl

pub field_too_many : directive_of (codes "@tick 1 2") ≡ None
unfolding directive_by
field_too_many = refl

-- tabs between fields, and blanks at the end
pub tabs : directive_of (codes "@tick" ++ (9 ∷ 9 ∷ codes "10 " ++ (9 ∷ []))) ≡ directive_of (codes "@tick 10")
unfolding directive_by read_u64
tabs = refl

-- a date and time
pub ten_seconds : directive_of (codes "@tick 1970-01-01T00:00:10Z") ≡ option_map (λ time. Tick time) (instant (codes "1970-01-01T00:00:10Z"))
unfolding directive_by read_u64
ten_seconds = refl

-- past the year 9999
pub too_late : directive_of (codes "@tick 253402300800000") ≡ None
unfolding directive_by read_u64 instant is_date_time minutes_ahead has_form fraction
too_late = refl

pub not_absolute : directive_of (codes "@item <a> 1") ≡ None
unfolding directive_by absolute_iri iri string enclosed spelled sign iri_escape uchar chars is_utf8 encode_utf8
not_absolute = refl

pub item_of_nothing : content_of_texts 7 1 (codes "@item <s:a> 1" ∷ codes "@end" ∷ []) ≡ Event (event.Item (codes "s:a") 1 [])
unfolding is_end content_of_lines content_of_directive directive_by read_u64 absolute_iri iri string enclosed spelled sign iri_escape uchar chars is_utf8 encode_utf8
item_of_nothing = refl

abbrev statement_to : List ℕ → List ℕ
statement_to behind = codes "<a:1> <p:v> <a:2>" ++ behind

-- a good line, a comment, and a bad line
pub bad_quad : content_of_texts 7 1 (codes "@delete" ∷ statement_to (codes ".") ∷ codes " # x" ∷ codes "<a:1> ." ∷ codes "@end" ∷ []) ≡ Fault (BadBody 4)
unfolding is_end content_of_lines content_of_directive directive_by statement_of is_end_of_line parts_of iri_escape uchar spelled sign iri string enclosed label tag datatype literal_of literal node object chars is_utf8 utf8_valid_len encode_utf8
bad_quad = refl

-- a graph in an item, and no `@end`: the bad line is the fault
pub graph_in_item : content_of_texts 7 1 (codes "@item <s:a> 1" ∷ statement_to (codes " <g:1> .") ∷ statement_to (codes ".") ∷ []) ≡ Fault (BadBody 2)
unfolding is_end content_of_lines content_of_directive directive_by read_u64 absolute_iri statement_of is_end_of_line parts_of iri_escape uchar spelled sign iri string enclosed label tag datatype literal_of literal node object chars is_utf8 utf8_valid_len encode_utf8
graph_in_item = refl
