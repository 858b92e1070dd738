-- Definitions: the files of recorded streams as events: their items by time, and a last tick.
use Rattle.std.specs.Prelude.{ℕ, ◌-◌, List, ◌++◌, length, map, option_map, option_to_list, slice_get}
use Rattle.std.specs.List.{enumerate_from, zip}
use Rattle.rsp_events.specs.declared.event.Event.{Event}
use Rattle.rsp_events.specs.declared.event.Event.TheVariants.{Tick}
use Rattle.rsp_events.specs.declared.recording.RecordedItems.{RecordedItems}
use Rattle.rsp_events.specs.Merged.{item_time, merged}
use Rattle.rsp_events.specs.Recorded.{recorded}
use Rattle.rsp_words.specs.Words.{Stream}

-- each file is a document, of which the first has this number
abbrev pub recordings : ℕ → List Stream → List (List ℕ) → List RecordedItems
recordings document streams files = map (λ x. recorded x.1.0.iri x.0 x.1.1) (enumerate_from document (zip streams files))

-- a tick at the time of the last item, if there is one
abbrev pub last_tick : List Event → List Event
last_tick items = option_to_list (option_map (λ item. Tick (item_time item)) (slice_get items (length items - 1)))

abbrev pub with_tick : List Event → List Event
with_tick items = items ++ last_tick items

abbrev pub items_of : List RecordedItems → List (List Event)
items_of reads = map (λ (read : RecordedItems). read.items) reads

-- the items of all streams by time, those of one time by stream and then by place; and the last tick
abbrev pub events_of : List RecordedItems → List Event
events_of reads = with_tick (merged (items_of reads))
