-- Words of the way: where the items of each stream stand in the queue, and the latest time of them up to each.
use Rattle.std.specs.Prelude.{◌≡◌, ℕ, suc, ◌<◌, Bool, false, cond, max, List, [], ◌∷◌, slice_index_or, bytes_eq}
use Rattle.std.specs.Map.{lookup}
use Rattle.std.specs.Option.{option_map_or}
use Rattle.rsp_scope.specs.Moves.{is_fresh}
use Rattle.rsp_scope.specs.declared.gate.Gate.{Gate}
use Rattle.rsp_scope.specs.declared.item.Item.{Item}
use Rattle.rsp_scope.specs.declared.lanes.Lane.{Lane}
use Rattle.rsp_scope.specs.declared.lanes.Slot.{Slot}

-- the places of the stream's items, where the first item stands at `at`
abbrev pub places_of : List ℕ → ℕ → List Item → List ℕ
places_of stream at [] = []
places_of stream at (item ∷ items) =
    cond (bytes_eq item.stream stream) (at ∷ places_of stream (suc at) items) (places_of stream (suc at) items)

-- and with each the latest time of the stream's items up to it, where `latest` came before
abbrev pub slots_of : List ℕ → ℕ → ℕ → List Item → List Slot
slots_of stream at latest [] = []
slots_of stream at latest (item ∷ items) =
    cond (bytes_eq item.stream stream) (record { place = at; peak = max item.time latest } ∷ slots_of stream (suc at) (max item.time latest) items)
    (slots_of stream (suc at) latest items)

-- the latest time of all slots, where `latest` came before
abbrev pub peak_of : ℕ → List Slot → ℕ
peak_of latest [] = latest
peak_of latest (slot ∷ slots) = peak_of slot.peak slots

-- the slot of an item of this place and time behind others
abbrev pub slot_behind : List Slot → ℕ → ℕ → Slot
slot_behind slots place time = record { place = place; peak = max time (peak_of 0 slots) }

-- the slots that the stream's lane holds
abbrev pub lane_of : List (List ℕ × Lane) → List ℕ → List Slot
lane_of lanes stream = option_map_or (λ (lane : Lane). lane.slots.items) (lookup (bytes_eq stream) lanes) []

-- and how many it has room for
abbrev pub room_of : List (List ℕ × Lane) → List ℕ → ℕ
room_of lanes stream = option_map_or (λ (lane : Lane). lane.slots.cap) (lookup (bytes_eq stream) lanes) 0

-- each lane holds the slots of its stream's items
abbrev pub AreFiled : List (List ℕ × Lane) → List Item → Type 0
AreFiled lanes items = (stream : List ℕ) → lane_of lanes stream ≡ slots_of stream 0 0 items

-- the item wasn't in the content of the last move
abbrev pub is_new : Gate → Item → Bool
is_new gate item = is_fresh gate.seen gate.since item.number item.time

-- of the first n items of the stream none is new
abbrev pub AreStale : Gate → List Item → ℕ → Type 0
AreStale gate items n = (k place : ℕ) (item : Item) → k < n
    → is_new gate (slice_index_or items (slice_index_or (places_of gate.stream 0 items) k place) item) ≡ false
