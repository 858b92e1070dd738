-- Definitions: recorded streams: the items of a file of statements, and its refused lines.
--
-- A time line says when the graph that it names was generated: it opens an item of this time and of this name. The quads of
-- the graph of this name, up to the next time line, are the item's.
use Rattle.std.specs.Prelude.{ℕ, Bool, ◌&&◌, ◌||◌, if◌then◌else◌, Option, None, Some, List, [], ◌∷◌, bytes_eq, codes, filter, map}
use Rattle.std.specs.List.{before_first, cons_option, filter_map}
use Rattle.std.specs.Option.{option_and_then, option_eq, option_map, option_or, is_none, is_some}
use Rattle.rsp_terms.specs.declared.term.Term.{Term}
use Rattle.rsp_terms.specs.declared.term.Term.TheVariants.{Iri, Literal}
use Rattle.rsp_terms.specs.declared.statement.Quad.{Quad}
use Rattle.rsp_terms.specs.declared.statement.Triple.{Triple}
use Rattle.rsp_terms.specs.Same.{term_eq}
use Rattle.rsp_text.specs.Instants.{instant}
use Rattle.rsp_nquads.specs.Answers.{Answer}
use Rattle.rsp_events.specs.declared.event.Event.{Event}
use Rattle.rsp_events.specs.declared.event.Event.TheVariants.{Item}
use Rattle.rsp_events.specs.declared.refused.LineRefused.{LineRefused}
use Rattle.rsp_events.specs.declared.refused.RefusedAs.{RefusedAs}
use Rattle.rsp_events.specs.declared.refused.RefusedAs.TheVariants.{NoTimeLine}
use Rattle.rsp_events.specs.declared.recording.RecordedItems.{RecordedItems}
use Rattle.rsp_events.specs.Contents.{fault_in, quad_in}
use Rattle.rsp_events.specs.Directives.{number_of}
use Rattle.rsp_events.specs.Files.{answers, refused_at}

-- ---- time lines

-- the time predicate of PROV-O
abbrev pub generated_at_time : Term
generated_at_time = Iri (codes "http://www.w3.org/ns/prov#generatedAtTime")

-- the time that a term says, in ms since 1970 (XML Schema Part 2, sections 3.2.7 and 3.3.13): a date and time, or a number of
-- digits alone, up to the end of the year 9999
abbrev pub time_in : Term → Option ℕ
time_in (Literal lexical datatype) =
    if bytes_eq datatype (codes "http://www.w3.org/2001/XMLSchema#dateTime")
    then instant lexical
    else (if bytes_eq datatype (codes "http://www.w3.org/2001/XMLSchema#integer") then number_of lexical else None)
time_in _ = None

-- the time of a statement that is a time line
abbrev pub time_stated : Quad → Option ℕ
time_stated quad =
    if is_none quad.graph && term_eq quad.triple.predicate generated_at_time
    then time_in quad.triple.object
    else None

-- the name and the time of the item that a time line opens
abbrev pub opening : Answer → Option (Term × ℕ)
opening answer =
    option_and_then (λ (quad : Quad). option_map (λ time. (quad.triple.subject, time)) (time_stated quad)) (quad_in answer)

-- ---- items

-- a quad of the graph of this name, if there is a name
abbrev pub is_of : Option Term → Quad → Bool
is_of name quad = is_some name && option_eq term_eq quad.graph name

-- the triples of the graph of this name on the lines behind its time line, up to the next time line
abbrev pub graph : Term → List (ℕ × Answer) → List Triple
graph name behind =
    map (λ (quad : Quad). quad.triple)
    (filter (is_of (Some name))
    (filter_map (λ (x : ℕ × Answer). quad_in x.1) (before_first (λ (x : ℕ × Answer). is_some (opening x.1)) behind)))

-- the items, in the order of their time lines
abbrev pub items : List ℕ → List (ℕ × Answer) → List Event
items stream [] = []
items stream (x ∷ behind) =
    cons_option (option_map (λ (o : Term × ℕ). Item stream o.1 (graph o.0 behind)) (opening x.1)) (items stream behind)

-- ---- refused lines

-- a statement that is neither a time line nor a quad of the item that was opened last, which has this name
abbrev pub neither : Option Term → Quad → Option RefusedAs
neither name quad = if is_some (time_stated quad) || is_of name quad then None else Some NoTimeLine

abbrev pub refused : Option Term → List (ℕ × Answer) → List LineRefused
refused name [] = []
refused name (x ∷ behind) =
    cons_option (refused_at x.0 (option_or (fault_in x.1) (option_and_then (neither name) (quad_in x.1))))
    (refused (option_or (option_map (λ (o : Term × ℕ). o.0) (opening x.1)) name) behind)

-- the items of a stream's file, and its refused lines
abbrev pub recorded : List ℕ → ℕ → List ℕ → RecordedItems
recorded stream document bytes =
    record { items = items stream (answers document bytes); refused = refused None (answers document bytes) }
