-- Definitions: which accepted items are still needed. All times are in milliseconds since 1970.
use Rattle.std.specs.Prelude.{ℕ, Bool, ◌&&◌, nat_le, List, length, sum_by, filter, bytes_eq}
use Rattle.std.specs.List.{list_any}
use Rattle.rsp_spec.specs.Windows as windows
use Rattle.rsp_scope.specs.Contents.{Accepted, Numbered, Watch, numbered}

-- some window of the watch sees the item, contains it and closes at `next` or later
abbrev pub is_needed_by : ℕ → Numbered → Watch → Bool
is_needed_by next entry watch =
    nat_le watch.first entry.number
    && (bytes_eq entry.item.stream watch.stream && windows.is_needed watch.shape entry.item.time next)

-- the item is needed at `next` by one of these windows
abbrev pub is_needed : ℕ → List Watch → Numbered → Bool
is_needed next watches entry = list_any (is_needed_by next entry) watches

-- the accepted items that are needed at `next`, in order
abbrev pub needed_items : ℕ → List Watch → List Accepted → List Numbered
needed_items next watches items = filter (is_needed next watches) (numbered 0 items)

-- the triples of some items, as listed
abbrev pub listed_triples : List Numbered → ℕ
listed_triples entries = sum_by (λ (entry : Numbered). length entry.item.graph) entries
