-- Definitions: the items of several lists as one list: those of time 0, by list and then by place in the list, then those of
-- time 1, and so on.
use Rattle.std.specs.Prelude.{ℕ, ◌^◌, Bool, false, ◌==◌, List, filter}
use Rattle.std.specs.List.{flat_map, range_with_len}
use Rattle.rsp_events.specs.declared.event.Event.{Event}
use Rattle.rsp_events.specs.declared.event.Event.TheVariants.{Item}

-- the time of an item; of other events none is asked
abbrev pub item_time : Event → ℕ
item_time (Item stream time graph) = time
item_time _ = 0

-- an item of this time
abbrev pub has_time : ℕ → Event → Bool
has_time t (Item stream time graph) = time == t
has_time t _ = false

-- a time has 64 bits; other events are left out
unfoldable pub merged : List (List Event) → List Event
merged lists = flat_map (λ t. filter (has_time t) (flat_map (λ list. list) lists)) (range_with_len 0 (2 ^ 64))
