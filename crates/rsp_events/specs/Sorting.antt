-- Words of the way: the items of several lists, put in by time.
use Rattle.std.specs.Prelude.{Bool, true, false, nat_lt, if◌then◌else◌, List, [], ◌∷◌, filter}
use Rattle.std.specs.List.{flat_map}
use Rattle.rsp_events.specs.declared.event.Event.{Event}
use Rattle.rsp_events.specs.declared.event.Event.TheVariants.{Item}
use Rattle.rsp_events.specs.Merged.{item_time}

abbrev pub is_item : Event → Bool
is_item (Item stream time graph) = true
is_item _ = false

abbrev pub is_earlier : Event → Event → Bool
is_earlier item other = nat_lt (item_time item) (item_time other)

-- an item before the first that isn't earlier
abbrev pub put_in : Event → List Event → List Event
put_in item [] = item ∷ []
put_in item (first ∷ items) = if is_earlier first item then first ∷ put_in item items else item ∷ (first ∷ items)

-- items by time; those of one time keep their order
abbrev pub by_time : List Event → List Event
by_time [] = []
by_time (item ∷ items) = put_in item (by_time items)

-- the items by list, then by place in the list; other events are left out
abbrev pub all_items : List (List Event) → List Event
all_items lists = filter is_item (flat_map (λ list. list) lists)
