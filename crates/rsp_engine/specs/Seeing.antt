-- Words of the way: what a query may see of the accepted items, and when it is due on one, by its stream and time.
use Rattle.std.specs.Prelude.{ℕ, ◌-◌, Bool, ◌&&◌, bytes_eq, Option, Some, List, drop, length, slice_get}
use Rattle.std.specs.List.{flat_map, list_any}
use Rattle.rsp_terms.specs.declared.statement.Fact.{Fact}
use Rattle.rsp_report.specs.Due as windows
use Rattle.rsp_scope.specs.Contents.{Accepted, Watch, window_facts}
use Rattle.rsp_engine.specs.Due.{watched_of}
use Rattle.rsp_engine.specs.World.{Registration}

-- the items from number `first` on
abbrev pub visible_items : List Accepted → ℕ → List Accepted
visible_items items first = drop first items

-- the item that was accepted last
abbrev pub newest : List Accepted → Option Accepted
newest items = slice_get items (length items - 1)

-- a query that looks at items is due at t on the newest item, which came over this stream, where that is one of its streams
abbrev pub is_due_over : List Accepted → Registration → List ℕ → ℕ → Bool
is_due_over items query stream t =
    query.reading.policy.tuple
    && (list_any (λ w. bytes_eq stream w.stream) query.reading.windows
    && windows.is_due_on_item query.reading.policy (watched_of items query) t)

-- what windows see of the accepted items at t: their graphs
abbrev pub facts_seen : List Accepted → List Watch → ℕ → List Fact
facts_seen items watched t = flat_map (λ (watch : Watch). window_facts watch (Some t) items) watched
