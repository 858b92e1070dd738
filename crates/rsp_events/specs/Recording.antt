-- Words of the way: what is kept of a recorded stream's file whose lines are read one by one.
use Rattle.std.specs.Prelude.{ℕ, if◌then◌else◌, Option, None, Some, List, [], ◌∷◌, ◌++◌}
use Rattle.rsp_terms.specs.declared.term.Term.{Term}
use Rattle.rsp_terms.specs.declared.statement.Quad.{Quad}
use Rattle.rsp_terms.specs.declared.statement.Triple.{Triple}
use Rattle.rsp_nquads.specs.Answers.{Answer, nothing, statement, bad_statement, relative_iri}
use Rattle.rsp_events.specs.declared.event.Event.{Event}
use Rattle.rsp_events.specs.declared.event.Event.TheVariants.{Item}
use Rattle.rsp_events.specs.declared.refused.RefusedAs.{RefusedAs}
use Rattle.rsp_events.specs.declared.refused.RefusedAs.TheVariants.{BadStatement, RelativeIri, NoTimeLine}
use Rattle.rsp_events.specs.declared.recording.RecordedItems.{RecordedItems}
use Rattle.rsp_events.specs.declared.recording.Recording.{Recording}
use Rattle.rsp_events.specs.declared.recording.OpenItem.{OpenItem}
use Rattle.rsp_events.specs.FileLines.{FileLine}
use Rattle.rsp_events.specs.Recorded.{is_of, time_stated}
use Rattle.rsp_events.specs.Openings.{graph, items, refused}

abbrev pub open_name : Option OpenItem → Option Term
open_name None = None
open_name (Some item) = Some item.name

-- ---- what the lines that are left come to

abbrev pub items_ahead : List ℕ → ℕ → Option OpenItem → List FileLine → List Event
items_ahead stream document None lines = items stream document lines
items_ahead stream document (Some item) lines =
    Item stream item.time (item.graph ++ graph document item.name lines) ∷ items stream document lines

abbrev pub outcome : List ℕ → ℕ → Recording → List FileLine → RecordedItems
outcome stream document reading lines = record {
  items = reading.items ++ items_ahead stream document reading.opened lines;
  refused = reading.refused ++ refused document (open_name reading.opened) lines;
}

-- ---- what a line changes

-- the open item as an event
abbrev pub closed : List ℕ → Option OpenItem → List Event
closed stream None = []
closed stream (Some item) = Item stream item.time item.graph ∷ []

abbrev pub with_triple : Triple → Option OpenItem → Option OpenItem
with_triple triple None = None
with_triple triple (Some item) =
    Some (record { name = item.name; time = item.time; graph = item.graph ++ (triple ∷ []) })

abbrev pub with_refusal : ℕ → RefusedAs → Recording → Recording
with_refusal number fault reading = record {
  items = reading.items;
  opened = reading.opened;
  refused = reading.refused ++ (record { line = number; fault = fault } ∷ []);
}

abbrev pub behind_quad : ℕ → Quad → Recording → Recording
behind_quad number quad reading =
    if is_of (open_name reading.opened) quad
    then record { items = reading.items; opened = with_triple quad.triple reading.opened; refused = reading.refused }
    else with_refusal number NoTimeLine reading

abbrev pub behind_time_line : List ℕ → Term → ℕ → Recording → Recording
behind_time_line stream name time reading = record {
  items = reading.items ++ closed stream reading.opened;
  opened = Some (record { name = name; time = time; graph = [] });
  refused = reading.refused;
}

abbrev pub behind_statement : List ℕ → ℕ → Quad → Option ℕ → Recording → Recording
behind_statement stream number quad None reading = behind_quad number quad reading
behind_statement stream number quad (Some time) reading = behind_time_line stream quad.triple.subject time reading

abbrev pub behind_line : List ℕ → ℕ → Answer → Recording → Recording
behind_line stream number nothing reading = reading
behind_line stream number (statement quad) reading = behind_statement stream number quad (time_stated quad) reading
behind_line stream number (bad_statement column) reading = with_refusal number (BadStatement column) reading
behind_line stream number (relative_iri column) reading = with_refusal number (RelativeIri column) reading
