-- Definitions: what the lines of a block hold: the event, or the block's first fault.
use Rattle.std.specs.Prelude.{ℕ, ◌+◌, Bool, false, ◌||◌, not, if◌then◌else◌, Option, None, Some, List, [], ◌∷◌, ◌++◌, length, map}
use Rattle.std.specs.List.{before_first, cons_option, flat_map, list_any, position_or_len}
use Rattle.std.specs.Option.{is_some, option_map_or}
use Rattle.std.specs.Str.{is_utf8}
use Rattle.rsp_terms.specs.declared.statement.Quad.{Quad}
use Rattle.rsp_terms.specs.declared.statement.Triple.{Triple}
use Rattle.rsp_nquads.specs.Answers.{Answer, statement, bad_statement, relative_iri}
use Rattle.rsp_nquads.specs.Statements.{statement_of}
use Rattle.rsp_events.specs.declared.directives.Directive.{Directive}
use Rattle.rsp_events.specs.declared.directives.Directive.TheVariants as directive
use Rattle.rsp_events.specs.declared.event.Event.{Event}
use Rattle.rsp_events.specs.declared.event.Event.TheVariants as event
use Rattle.rsp_events.specs.declared.event.Content.{Content}
use Rattle.rsp_events.specs.declared.event.Content.TheVariants as content
use Rattle.rsp_events.specs.declared.event.BlockFault.TheVariants.{BadDirective, BadBody}
use Rattle.rsp_events.specs.declared.refused.RefusedAs.{RefusedAs}
use Rattle.rsp_events.specs.declared.refused.RefusedAs.TheVariants.{BadStatement, RelativeIri}
use Rattle.rsp_events.specs.Directives.{directive_of}
use Rattle.rsp_events.specs.Lines.{is_end}

-- ---- a line of statements (RDF 1.1 N-Quads, section 2)

-- the quad that a line says; a blank line and a comment say none
abbrev pub quad_in : Answer → Option Quad
quad_in (statement quad) = Some quad
quad_in _ = None

-- why a line that says something is no statement
abbrev pub fault_in : Answer → Option RefusedAs
fault_in (bad_statement column) = Some (BadStatement column)
fault_in (relative_iri column) = Some (RelativeIri column)
fault_in _ = None

abbrev pub quad_on : ℕ → List ℕ → List Quad
quad_on document line = cons_option (quad_in (statement_of document line)) []

abbrev pub is_bad_quad : ℕ → List ℕ → Bool
is_bad_quad document line = is_some (fault_in (statement_of document line))

-- the same of the statements of an item, which have no graph
abbrev pub triple_on : ℕ → List ℕ → List Triple
triple_on document line = map (λ (quad : Quad). quad.triple) (quad_on document line)

abbrev pub is_bad_triple : ℕ → List ℕ → Bool
is_bad_triple document line =
    is_bad_quad document line
    || option_map_or (λ (quad : Quad). is_some quad.graph) (quad_in (statement_of document line)) false

-- ---- a line of query text

abbrev pub with_line_feed : List ℕ → List ℕ
with_line_feed line = line ++ (10 ∷ [])

abbrev pub is_bad_text : List ℕ → Bool
is_bad_text line = not (is_utf8 line)

-- ---- bodies

-- a body whose first line has the number behind `first`, the directive's, by its lines before `@end` and by whether it has one:
-- the event that the lines are, or the number of the first bad one; where none is bad and `@end` is missing, the number of the
-- line that would be it
abbrev pub content_of_body : ℕ → List (List ℕ) → Bool → (List ℕ → Bool) → (List (List ℕ) → Event) → Content
content_of_body first lines ended bad event_of =
    if list_any bad lines
    then content.Fault (BadBody (first + 1 + position_or_len bad lines))
    else
    (if ended
    then content.Event (event_of lines)
    else content.Fault (BadBody (first + 1 + length lines)))

unfoldable pub content_of_directive : ℕ → ℕ → Directive → List (List ℕ) → Bool → Content
content_of_directive document first (directive.Register name) lines ended =
    content_of_body first lines ended is_bad_text (λ lines. event.Register name (flat_map with_line_feed lines))
content_of_directive document first (directive.Cancel name) lines ended = content.Event (event.Cancel name)
content_of_directive document first (directive.Item stream time) lines ended =
    content_of_body first lines ended (is_bad_triple document) (λ lines. event.Item stream time (flat_map (triple_on document) lines))
content_of_directive document first (directive.Tick time) lines ended = content.Event (event.Tick time)
content_of_directive document first directive.Insert lines ended =
    content_of_body first lines ended (is_bad_quad document) (λ lines. event.Insert (flat_map (quad_on document) lines))
content_of_directive document first directive.Delete lines ended =
    content_of_body first lines ended (is_bad_quad document) (λ lines. event.Delete (flat_map (quad_on document) lines))

-- the content of a block, of whose lines the first has this number: by the lines before `@end`, and by whether it has one
unfoldable pub content_of_lines : ℕ → ℕ → List (List ℕ) → Bool → Content
content_of_lines document first [] ended = content.Fault BadDirective
content_of_lines document first (head ∷ lines) ended =
    option_map_or
    (λ directive. content_of_directive document first directive lines ended)
    (directive_of head)
    (content.Fault BadDirective)

-- the content of a block's lines, of which the first has this number
abbrev pub content_of_texts : ℕ → ℕ → List (List ℕ) → Content
content_of_texts document first [] = content.Fault BadDirective
content_of_texts document first (head ∷ body) =
    content_of_lines document first (head ∷ before_first is_end body) (list_any is_end body)
