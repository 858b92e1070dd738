-- Definitions: what recorded streams give that are replayed for a query: the refused lines of their files, and then the events.
use Rattle.std.specs.Prelude.{ℕ, ◌+◌, Option, None, Some, List, [], ◌∷◌, ◌++◌, codes, map}
use Rattle.std.specs.List.{flat_map, zip}
use Rattle.std.specs.Option.{option_map_or}
use Rattle.rsp_terms.specs.declared.statement.Quad.{Quad}
use Rattle.rsp_events.specs.declared.event.Event.{Event}
use Rattle.rsp_events.specs.declared.event.Event.TheVariants.{Insert, Register}
use Rattle.rsp_events.specs.declared.loading.LoadedQuads.{LoadedQuads}
use Rattle.rsp_events.specs.declared.recording.RecordedItems.{RecordedItems}
use Rattle.rsp_events.specs.declared.refused.LineRefused.{LineRefused}
use Rattle.rsp_events.specs.Files.{loaded}
use Rattle.rsp_engine.specs.declared.refused.Refused.TheVariants.{Text}
use Rattle.rsp_engine.specs.World.{empty_world}
use Rattle.rsp_modes.specs.declared.refusals.Place.TheVariants.{Block, Line}
use Rattle.rsp_modes.specs.Checks.{bytes_fault}
use Rattle.rsp_modes.specs.Output.{Given, Saying, a_block, a_refused, run}
use Rattle.rsp_modes.specs.Recordings.{events_of, recordings}
use Rattle.rsp_modes.specs.Refusals.{of_event, of_line}
use Rattle.rsp_modes.specs.Summaries.{event_block, numbered}
use Rattle.rsp_words.specs.Words.{Replay, Stream}

-- the refused lines of a file, by its name
abbrev pub line_given : List ℕ → LineRefused → Given
line_given file refused = a_refused (Line file refused.line) (of_line refused.fault)

abbrev pub lines_given : List ℕ → List LineRefused → List Given
lines_given file refused = map (line_given file) refused

abbrev pub all_lines_given : List Stream → List RecordedItems → List Given
all_lines_given streams reads = flat_map (λ x. lines_given x.0.file x.1.refused) (zip streams reads)

-- the query's registration; a file that can be no text of a query is refused in its place
abbrev pub query_given : ℕ → List ℕ → Given
query_given number bytes =
    option_map_or (λ why. a_refused (Block number) (of_event (Text why))) (bytes_fault bytes)
    (a_block (event_block (number, Register (codes "query") bytes)))

-- the query, as the block of this number, and the events behind it
abbrev pub played : ℕ → List ℕ → List Event → List Given
played number query events = query_given number query ∷ map a_block (numbered (number + 1) events)

-- the stored quads are inserted first
abbrev pub played_over : List Quad → List ℕ → List Event → List Given
played_over quads query events = a_block (event_block (1, Insert quads)) ∷ played 2 query events

-- the file of the stored quads is document 1, where there is one, and those of the streams are the documents behind it
abbrev pub given_over : List Stream → List ℕ → List ℕ → LoadedQuads → List RecordedItems → List Given
given_over streams query file stored reads =
    lines_given file stored.refused ++ (all_lines_given streams reads ++ played_over stored.quads query (events_of reads))

abbrev pub given_by : List Stream → List ℕ → Option (List ℕ) → List (List ℕ) → List Given
given_by streams query None files =
    all_lines_given streams (recordings 1 streams files) ++ played 1 query (events_of (recordings 1 streams files))
given_by streams query (Some name) [] = []
given_by streams query (Some name) (store ∷ files) = given_over streams query name (loaded 1 store) (recordings 2 streams files)

-- the file of the query is the first
abbrev pub given_of : Replay → List (List ℕ) → List Given
given_of replay [] = []
given_of replay (query ∷ files) = given_by replay.streams query replay.store files

abbrev pub replayed : Replay → List (List ℕ) → List Saying
replayed replay files = (run (empty_world 0) (given_of replay files)).said
