-- Definitions: when a query reports (SECRET, report and tick): what `rsp_report` says of its windows, each with the times of
-- the items over its stream that the query may see.
use Rattle.std.specs.Prelude.{ℕ, ◌-◌, Bool, false, ◌&&◌, not, bytes_eq, List, drop, filter, length, map, slice_get}
use Rattle.std.specs.List.{list_any}
use Rattle.std.specs.Option.{option_map_or}
use Rattle.rsp_report.specs.declared.contents.Watched.{Watched}
use Rattle.rsp_report.specs.Due as windows
use Rattle.rsp_scope.specs.Contents.{Accepted}
use Rattle.rsp_engine.specs.declared.live_query.StreamWindow.{StreamWindow}
use Rattle.rsp_engine.specs.World.{Registration}

abbrev pub is_over : StreamWindow → Accepted → Bool
is_over w item = bytes_eq item.stream w.stream

-- a window with the times of the items over its stream, and whether the newest item is one of them
abbrev pub watched_window : List Accepted → StreamWindow → Watched
watched_window items w =
    record {
      window = w.shape;
      times = map (λ (item : Accepted). item.time) (filter (is_over w) items);
      fresh = option_map_or (is_over w) (slice_get items (length items - 1)) false;
    }

-- a query's windows, of these accepted items: it may see those from number `first` on, accepted since it was registered
abbrev pub watched_of : List Accepted → Registration → List Watched
watched_of items query = map (watched_window (drop query.first items)) query.reading.windows

-- a query that looks at instants is due at t
abbrev pub is_due : List Accepted → Registration → ℕ → Bool
is_due items query t =
    not query.reading.policy.tuple && windows.is_due query.reading.policy (watched_of items query) t

-- a query that looks at items is due on the newest one, where that came over one of its streams
abbrev pub is_due_on : List Accepted → Registration → Accepted → Bool
is_due_on items query item =
    query.reading.policy.tuple
    && (list_any (λ w. is_over w item) query.reading.windows
    && windows.is_due_on_item query.reading.policy (watched_of items query) item.time)
