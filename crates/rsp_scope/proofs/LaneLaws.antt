-- Lanes by stream, and the slots that they hold.
use Rattle.std.proofs.Common.{◌≡◌, ℕ, zero, suc, ◌+◌, ◌<◌, ◌≤◌, Bool, true, false, cond, max, bytes_eq, Option, None, Some, List, [], ◌∷◌, ◌++◌, ℤ, pos, drop, take, length, filter, slice_index_or, refl, sym, ap, subst, ◌∙◌, append_assoc, append-nil, arith}
use Rattle.std.specs.Map.{lookup}
use Rattle.std.specs.Map.Calls.{RetainsPairs}
use Rattle.std.specs.Option.{option_map_or}
use Rattle.std.proofs.lemmas.List.{drop_more, length-append}
use Rattle.std.proofs.lemmas.List.Sums.{length-filter, sum_by-le-sum_by}
use Rattle.std.proofs.lemmas.Int.{ints}
use Rattle.std.proofs.lemmas.Slice.Eq.{bytes_eq-Decides}
use Rattle.rsp_multiset.specs.Weights.{sum_z}
use Rattle.rsp_scope.proofs.Endings.{gate-most, sum-filter}
use Rattle.rsp_scope.specs.Kept.{shortened}
use Rattle.rsp_scope.specs.Lanes.{AreFiled, lane_of, peak_of, places_of, room_of, slot_behind, slots_of}
use Rattle.rsp_scope.specs.declared.item.Item.{Item}
use Rattle.rsp_scope.specs.declared.lanes.Lane.{Lane}
use Rattle.rsp_scope.specs.declared.lanes.Slot.{Slot}

-- a lane has room for what it holds
pub lane-fits : (lanes : List (List ℕ × Lane)) (s : List ℕ) → length (lane_of lanes s) ≤ room_of lanes s
lane-fits lanes s = by (lookup (bytes_eq s) lanes)
  where
    by : (o : Option Lane) → length (option_map_or (λ (lane : Lane). lane.slots.items) o []) ≤ option_map_or (λ (lane : Lane). lane.slots.cap) o 0
    by None = omega arith
    by (Some lane) = omega (arith, lane.slots.ok.0, lane.slots.small.1)

-- lanes that were taken empty, one after the other
module _ {F : Type 0} (T : F → List ℕ → Lane → Bool → Lane → F → Type 0)
    (says : (f : F) (k : List ℕ) (lane : Lane) (b : Bool) (new : Lane) (g : F) → T f k lane b new g → (b ≡ true) × ((new.slots.items ≡ []) × (new.slots.cap ≡ lane.slots.cap))) where
  pub cleared : (f : F) (lanes kept : List (List ℕ × Lane)) → RetainsPairs T f lanes kept → (s : List ℕ) → (lane_of kept s ≡ []) × (room_of kept s ≡ room_of lanes s)
  cleared f [] kept h s = (ap (λ l. lane_of l s) h, ap (λ l. room_of l s) h)
  cleared f (e ∷ lanes) kept h s =
      let told = says f e.0 e.1 h.0 h.1 h.2 h.4 in
      let split : kept ≡ (e.0, h.1) ∷ h.3 = h.6 ∙ ap (λ b. cond b ((e.0, h.1) ∷ h.3) h.3) told.0 in
      by (bytes_eq s e.0) h.1 (lookup (bytes_eq s) h.3) told.1 (ap (λ l. lane_of l s) split) (ap (λ l. room_of l s) split) (cleared h.2 lanes h.3 h.5 s)
    where
      by : (b : Bool) (new : Lane) (rest : Option Lane) → (new.slots.items ≡ []) × (new.slots.cap ≡ e.1.slots.cap)
          → lane_of kept s ≡ option_map_or (λ (lane : Lane). lane.slots.items) (cond b (Some new) rest) []
          → room_of kept s ≡ option_map_or (λ (lane : Lane). lane.slots.cap) (cond b (Some new) rest) 0
          → (option_map_or (λ (lane : Lane). lane.slots.items) rest [] ≡ []) × (option_map_or (λ (lane : Lane). lane.slots.cap) rest 0 ≡ room_of lanes s)
          → (lane_of kept s ≡ []) × (room_of kept s ≡ option_map_or (λ (lane : Lane). lane.slots.cap) (cond b (Some e.1) (lookup (bytes_eq s) lanes)) 0)
      by true new rest told one two behind = (one ∙ told.0, two ∙ told.1)
      by false new rest told one two behind = (one ∙ behind.0, two ∙ behind.1)

-- the slot of an item at a place, where `latest` came before
abbrev slot_at : ℕ → Item → ℕ → Slot
slot_at at x latest = record { place = at; peak = max x.time latest }

module _ (s : List ℕ) where
  -- what an item at a place adds behind slots
  abbrev next_slot : ℕ → List Slot → ℕ → Item → List Slot
  next_slot latest slots at item = cond (bytes_eq item.stream s) (record { place = at; peak = max item.time (peak_of latest slots) } ∷ []) []

  -- an item more
  slots-push : (at latest : ℕ) (items : List Item) (item : Item)
      → slots_of s at latest (items ++ item ∷ []) ≡ slots_of s at latest items ++ next_slot latest (slots_of s at latest items) (at + length items) item
  slots-push at latest [] item = let here : at ≡ at + 0 = omega arith in ap (λ n. next_slot latest [] n item) here
  slots-push at latest (x ∷ items) item =
      let more : suc at + length items ≡ at + length (x ∷ items) = omega arith in
      by (bytes_eq x.stream s)
      (slots-push (suc at) (max x.time latest) items item
      ∙ ap (λ n. slots_of s (suc at) (max x.time latest) items ++ next_slot (max x.time latest) (slots_of s (suc at) (max x.time latest) items) n item) more)
      (slots-push (suc at) latest items item
      ∙ ap (λ n. slots_of s (suc at) latest items ++ next_slot latest (slots_of s (suc at) latest items) n item) more)
    where
      by : (b : Bool)
          → slots_of s (suc at) (max x.time latest) (items ++ item ∷ [])
          ≡ slots_of s (suc at) (max x.time latest) items ++ next_slot (max x.time latest) (slots_of s (suc at) (max x.time latest) items) (at + length (x ∷ items)) item
          → slots_of s (suc at) latest (items ++ item ∷ [])
          ≡ slots_of s (suc at) latest items ++ next_slot latest (slots_of s (suc at) latest items) (at + length (x ∷ items)) item
          → cond b (slot_at at x latest ∷ slots_of s (suc at) (max x.time latest) (items ++ item ∷ [])) (slots_of s (suc at) latest (items ++ item ∷ []))
          ≡ cond b (slot_at at x latest ∷ slots_of s (suc at) (max x.time latest) items) (slots_of s (suc at) latest items)
          ++ next_slot latest (cond b (slot_at at x latest ∷ slots_of s (suc at) (max x.time latest) items) (slots_of s (suc at) latest items)) (at + length (x ∷ items)) item
      by true taken left = ap (λ l. slot_at at x latest ∷ l) taken
      by false taken left = left

  abbrev On : Item → Bool
  On item = bytes_eq item.stream s

  places-long : (at : ℕ) (items : List Item) → length (places_of s at items) ≡ length (filter On items)
  places-long at [] = refl
  places-long at (x ∷ items) = by (bytes_eq x.stream s) (places-long (suc at) items)
    where
      by : (b : Bool) → length (places_of s (suc at) items) ≡ length (filter On items)
          → length (cond b (at ∷ places_of s (suc at) items) (places_of s (suc at) items)) ≡ length (cond b (x ∷ filter On items) (filter On items))
      by true rest = omega (arith, rest)
      by false rest = rest

  -- as many slots as places
  pub slots-long : (at latest : ℕ) (items : List Item) → length (slots_of s at latest items) ≡ length (places_of s at items)
  slots-long at latest [] = refl
  slots-long at latest (x ∷ items) = by (bytes_eq x.stream s) (slots-long (suc at) (max x.time latest) items) (slots-long (suc at) latest items)
    where
      by : (b : Bool) → length (slots_of s (suc at) (max x.time latest) items) ≡ length (places_of s (suc at) items)
          → length (slots_of s (suc at) latest items) ≡ length (places_of s (suc at) items)
          → length (cond b (slot_at at x latest ∷ slots_of s (suc at) (max x.time latest) items) (slots_of s (suc at) latest items))
          ≡ length (cond b (at ∷ places_of s (suc at) items) (places_of s (suc at) items))
      by true taken left = omega (arith, taken)
      by false taken left = left

  -- fewer items have no more places
  places-few : (p : Item → Bool) (items : List Item) → length (places_of s 0 (filter p items)) ≤ length (places_of s 0 items)
  places-few p items =
      let left = places-long 0 (filter p items) ∙ length-filter On (filter p items) in
      let part = sum-filter p (λ item. cond (On item) 1 0) items in
      let most = sum_by-le-sum_by (λ item. cond (p item) (cond (On item) 1 0) 0) (λ item. cond (On item) 1 0) items (λ item. gate-most (p item) (cond (On item) 1 0)) in
      let all = places-long 0 items ∙ length-filter On items in
      omega (arith, left, part, most, all)

  kept-most : (items : List Item) (untils : List (Option ℕ)) → length (filter On (shortened items untils)) ≤ length (filter On items)
  kept-most [] untils = omega arith
  kept-most (x ∷ items) [] = omega arith
  kept-most (x ∷ items) (None ∷ untils) = by (bytes_eq x.stream s) (kept-most items untils)
    where
      by : (b : Bool) → length (filter On (shortened items untils)) ≤ length (filter On items) → length (filter On (shortened items untils)) ≤ length (cond b (x ∷ filter On items) (filter On items))
      by true rest = omega (arith, rest)
      by false rest = rest
  kept-most (x ∷ items) (Some end ∷ untils) = by (bytes_eq x.stream s) (kept-most items untils)
    where
      by : (b : Bool) → length (filter On (shortened items untils)) ≤ length (filter On items)
          → length (cond b (record x { end = end } ∷ filter On (shortened items untils)) (filter On (shortened items untils))) ≤ length (cond b (x ∷ filter On items) (filter On items))
      by true rest = omega (arith, rest)
      by false rest = rest

  -- nor have items with new ends
  places-shortened : (items : List Item) (untils : List (Option ℕ)) → length (places_of s 0 (shortened items untils)) ≤ length (places_of s 0 items)
  places-shortened items untils = omega (arith, places-long 0 (shortened items untils), places-long 0 items, kept-most items untils)

  -- nor more slots
  pub slots-few : (p : Item → Bool) (items : List Item) → length (slots_of s 0 0 (filter p items)) ≤ length (slots_of s 0 0 items)
  slots-few p items = omega (arith, slots-long 0 0 (filter p items), slots-long 0 0 items, places-few p items)

  pub slots-shortened : (items : List Item) (untils : List (Option ℕ)) → length (slots_of s 0 0 (shortened items untils)) ≤ length (slots_of s 0 0 items)
  slots-shortened items untils = omega (arith, slots-long 0 0 (shortened items untils), slots-long 0 0 items, places-shortened items untils)

first-slot : (s : List ℕ) (items : List Item) (at latest : ℕ) (x : Item) → at < length items → x ≡ slice_index_or items at x
    → slots_of s at latest (drop at items)
    ≡ cond (bytes_eq x.stream s) (slot_at at x latest ∷ slots_of s (suc at) (max x.time latest) (drop (at + 1) items)) (slots_of s (suc at) latest (drop (at + 1) items))
first-slot s items at latest x below is = ap (λ l. slots_of s at latest l) (drop_more items at x below ∙ ap (λ (y : Item). y ∷ drop (at + 1) items) (sym is))

peak-push : (latest : ℕ) (slots : List Slot) (slot : Slot) → peak_of latest (slots ++ slot ∷ []) ≡ slot.peak
peak-push latest [] slot = refl
peak-push latest (x ∷ slots) slot = peak-push x.peak slots slot

-- the last slot has the latest time
pub peak-last : (latest : ℕ) (slots : List Slot) (last : ℕ) (d : Slot) → length slots ≡ suc last → peak_of latest slots ≡ (slice_index_or slots last d).peak
peak-last latest [] last d long = absurd (omega (arith, long))
peak-last latest (x ∷ []) zero d long = refl
peak-last latest (x ∷ []) (suc last) d long = absurd (omega (arith, long))
peak-last latest (x ∷ y ∷ slots) zero d long = absurd (omega (arith, long))
peak-last latest (x ∷ y ∷ slots) (suc last) d long = peak-last x.peak (y ∷ slots) last d (omega (arith, long))

pub peak-none : (slots : List Slot) (time : ℕ) → length slots ≡ 0 → time ≡ max time (peak_of 0 slots)
peak-none [] time none = omega arith
peak-none (x ∷ slots) time none = absurd (omega (arith, none))

-- one item more of a walk that files the items
pub filed-next : (lanes : List (List ℕ × Lane)) (s : List ℕ) (items : List Item) (at : ℕ) (x : Item) (after total : List Slot) → at < length items → x ≡ slice_index_or items at x
    → after ≡ cond (bytes_eq x.stream s) (lane_of lanes x.stream ++ slot_behind (lane_of lanes x.stream) at x.time ∷ []) (lane_of lanes s)
    → lane_of lanes s ++ slots_of s at (peak_of 0 (lane_of lanes s)) (drop at items) ≡ total
    → after ++ slots_of s (at + 1) (peak_of 0 after) (drop (at + 1) items) ≡ total
filed-next lanes s items at x after total below is put so_far =
    let more : at + 1 ≡ suc at = omega arith in
    (λ i. put i ++ slots_of s (more i) (peak_of 0 (put i)) (drop (at + 1) items))
    ∙ by (bytes_eq x.stream s) refl (sym (ap (λ l. lane_of lanes s ++ l) (first-slot s items at (peak_of 0 (lane_of lanes s)) x below is)) ∙ so_far)
  where
    by : (b : Bool) → bytes_eq x.stream s ≡ b
        → lane_of lanes s
        ++ cond b (slot_at at x (peak_of 0 (lane_of lanes s)) ∷ slots_of s (suc at) (max x.time (peak_of 0 (lane_of lanes s))) (drop (at + 1) items))
        (slots_of s (suc at) (peak_of 0 (lane_of lanes s)) (drop (at + 1) items))
        ≡ total
        → cond b (lane_of lanes x.stream ++ slot_behind (lane_of lanes x.stream) at x.time ∷ []) (lane_of lanes s)
        ++ slots_of s (suc at) (peak_of 0 (cond b (lane_of lanes x.stream ++ slot_behind (lane_of lanes x.stream) at x.time ∷ []) (lane_of lanes s))) (drop (at + 1) items)
        ≡ total
    by true same h =
        ap (λ n. (lane_of lanes x.stream ++ slot_behind (lane_of lanes x.stream) at x.time ∷ []) ++ slots_of s (suc at) n (drop (at + 1) items))
        (peak-push 0 (lane_of lanes x.stream) (slot_behind (lane_of lanes x.stream) at x.time))
        ∙ (append_assoc (lane_of lanes x.stream) (slot_behind (lane_of lanes x.stream) at x.time ∷ [])
        (slots_of s (suc at) (max x.time (peak_of 0 (lane_of lanes x.stream))) (drop (at + 1) items))
        ∙ (ap (λ t. lane_of lanes t ++ slot_behind (lane_of lanes t) at x.time ∷ slots_of s (suc at) (max x.time (peak_of 0 (lane_of lanes t))) (drop (at + 1) items))
        ((bytes_eq-Decides x.stream s).0 same)
        ∙ h))
    by false other h = h

-- and there is room for it
pub filed-room : (lanes : List (List ℕ × Lane)) (items : List Item) (at room : ℕ) (x : Item) → at < length items → x ≡ slice_index_or items at x
    → lane_of lanes x.stream ++ slots_of x.stream at (peak_of 0 (lane_of lanes x.stream)) (drop at items) ≡ slots_of x.stream 0 0 items
    → length (slots_of x.stream 0 0 items) ≤ room
    → length (lane_of lanes x.stream) < room
filed-room lanes items at room x below is so_far wide =
    let top = peak_of 0 (lane_of lanes x.stream) in
    let rest = slots_of x.stream (suc at) (max x.time top) (drop (at + 1) items) in
    let here = first-slot x.stream items at top x below is
    ∙ ap (λ b. cond b (slot_at at x top ∷ rest) (slots_of x.stream (suc at) top (drop (at + 1) items))) ((bytes_eq-Decides x.stream x.stream).1 refl) in
    let long = ap (λ (l : List Slot). length l) (sym (ap (λ l. lane_of lanes x.stream ++ l) here) ∙ so_far) in
    omega (arith, long, length-append (lane_of lanes x.stream) (slot_at at x top ∷ rest), wide)

drop-next : (at : ℕ) (xs : List Item) → drop (suc at) xs ≡ drop 1 (drop at xs)
drop-next zero xs = refl
drop-next (suc at) [] = refl
drop-next (suc at) (x ∷ xs) = drop-next at xs

front : (at : ℕ) (whole : List Item) (x : Item) (items : List Item) (e : Item) → drop at whole ≡ x ∷ items → slice_index_or whole at e ≡ x
front zero whole x items e is = ap (λ (l : List Item). slice_index_or l 0 e) is
front (suc at) [] x items e is = absurd (omega (arith, ap (λ (l : List Item). length l) is))
front (suc at) (y ∷ whole) x items e is = front at whole x items e is

-- the places rise and are within the queue
module _ (s : List ℕ) where
  bounds : (at : ℕ) (items : List Item) (k d : ℕ) → k < length (places_of s at items)
      → (at ≤ slice_index_or (places_of s at items) k d) × (slice_index_or (places_of s at items) k d < at + length items)
  bounds at [] k d within = absurd (omega (arith, within))
  bounds at (x ∷ items) k d within = by (bytes_eq x.stream s) k within (λ j inside. bounds (suc at) items j d inside)
    where
      by : (b : Bool) (k : ℕ) → k < length (cond b (at ∷ places_of s (suc at) items) (places_of s (suc at) items))
          → ((j : ℕ) → j < length (places_of s (suc at) items) → (suc at ≤ slice_index_or (places_of s (suc at) items) j d) × (slice_index_or (places_of s (suc at) items) j d < suc at + length items))
          → (at ≤ slice_index_or (cond b (at ∷ places_of s (suc at) items) (places_of s (suc at) items)) k d)
          × (slice_index_or (cond b (at ∷ places_of s (suc at) items) (places_of s (suc at) items)) k d < at + length (x ∷ items))
      by true zero inside rest = (omega arith, omega arith)
      by true (suc k) inside rest = let r = rest k (omega (arith, inside)) in (omega (arith, r.0), omega (arith, r.1))
      by false k inside rest = let r = rest k inside in (omega (arith, r.0), omega (arith, r.1))

  pub place-within : (items : List Item) (k d : ℕ) → k < length (places_of s 0 items) → slice_index_or (places_of s 0 items) k d < length items
  place-within items k d within = let b = (bounds 0 items k d within).1 in omega (arith, b)

  rise : (at : ℕ) (items : List Item) (k j d : ℕ) → k ≤ j → j < length (places_of s at items)
      → slice_index_or (places_of s at items) k d ≤ slice_index_or (places_of s at items) j d
  rise at [] k j d before within = absurd (omega (arith, within))
  rise at (x ∷ items) k j d before within =
      by (bytes_eq x.stream s) k j before within (λ k j h g. rise (suc at) items k j d h g) (λ j g. (bounds (suc at) items j d g).0)
    where
      by : (b : Bool) (k j : ℕ) → k ≤ j → j < length (cond b (at ∷ places_of s (suc at) items) (places_of s (suc at) items))
          → ((k j : ℕ) → k ≤ j → j < length (places_of s (suc at) items) → slice_index_or (places_of s (suc at) items) k d ≤ slice_index_or (places_of s (suc at) items) j d)
          → ((j : ℕ) → j < length (places_of s (suc at) items) → suc at ≤ slice_index_or (places_of s (suc at) items) j d)
          → slice_index_or (cond b (at ∷ places_of s (suc at) items) (places_of s (suc at) items)) k d
          ≤ slice_index_or (cond b (at ∷ places_of s (suc at) items) (places_of s (suc at) items)) j d
      by true zero zero before inside rest low = omega arith
      by true zero (suc j) before inside rest low = let r = low j (omega (arith, inside)) in omega (arith, r)
      by true (suc k) zero before inside rest low = absurd (omega (arith, before))
      by true (suc k) (suc j) before inside rest low = rest k j (omega (arith, before)) (omega (arith, inside))
      by false k j before inside rest low = rest k j before inside

  pub places-rise : (items : List Item) (k j d : ℕ) → k ≤ j → j < length (places_of s 0 items) → slice_index_or (places_of s 0 items) k d ≤ slice_index_or (places_of s 0 items) j d
  places-rise items k j d before within = rise 0 items k j d before within

  -- a slot has the place
  pub slot-place : (at latest : ℕ) (items : List Item) (k p : ℕ) (d : Slot) → k < length (slots_of s at latest items)
      → (slice_index_or (slots_of s at latest items) k d).place ≡ slice_index_or (places_of s at items) k p
  slot-place at latest [] k p d within = absurd (omega (arith, within))
  slot-place at latest (x ∷ items) k p d within =
      by (bytes_eq x.stream s) k within (λ j inside. slot-place (suc at) (max x.time latest) items j p d inside) (λ j inside. slot-place (suc at) latest items j p d inside)
    where
      by : (b : Bool) (k : ℕ) → k < length (cond b (slot_at at x latest ∷ slots_of s (suc at) (max x.time latest) items) (slots_of s (suc at) latest items))
          → ((j : ℕ) → j < length (slots_of s (suc at) (max x.time latest) items)
          → (slice_index_or (slots_of s (suc at) (max x.time latest) items) j d).place ≡ slice_index_or (places_of s (suc at) items) j p)
          → ((j : ℕ) → j < length (slots_of s (suc at) latest items)
          → (slice_index_or (slots_of s (suc at) latest items) j d).place ≡ slice_index_or (places_of s (suc at) items) j p)
          → (slice_index_or (cond b (slot_at at x latest ∷ slots_of s (suc at) (max x.time latest) items) (slots_of s (suc at) latest items)) k d).place
          ≡ slice_index_or (cond b (at ∷ places_of s (suc at) items) (places_of s (suc at) items)) k p
      by true zero inside taken left = refl
      by true (suc k) inside taken left = taken k (omega (arith, inside))
      by false k inside taken left = left k inside

  -- and so has a lane's
  pub slot-is : (slots : List Slot) (items : List Item) (k p : ℕ) (slot : Slot) → slots ≡ slots_of s 0 0 items → k < length slots → slot ≡ slice_index_or slots k slot
      → slot.place ≡ slice_index_or (places_of s 0 items) k p
  slot-is slots items k p slot same within is =
      ap (λ (x : Slot). x.place) (is ∙ ap (λ l. slice_index_or l k slot) same)
      ∙ slot-place 0 0 items k p slot (subst (λ (l : List Slot). k < length l) same within)

  -- a peak is no lower than what came before
  above : (at latest : ℕ) (items : List Item) (k : ℕ) (d : Slot) → k < length (slots_of s at latest items) → latest ≤ (slice_index_or (slots_of s at latest items) k d).peak
  above at latest [] k d within = absurd (omega (arith, within))
  above at latest (x ∷ items) k d within =
      by (bytes_eq x.stream s) k within (λ j inside. above (suc at) (max x.time latest) items j d inside) (λ j inside. above (suc at) latest items j d inside)
    where
      by : (b : Bool) (k : ℕ) → k < length (cond b (slot_at at x latest ∷ slots_of s (suc at) (max x.time latest) items) (slots_of s (suc at) latest items))
          → ((j : ℕ) → j < length (slots_of s (suc at) (max x.time latest) items) → max x.time latest ≤ (slice_index_or (slots_of s (suc at) (max x.time latest) items) j d).peak)
          → ((j : ℕ) → j < length (slots_of s (suc at) latest items) → latest ≤ (slice_index_or (slots_of s (suc at) latest items) j d).peak)
          → latest ≤ (slice_index_or (cond b (slot_at at x latest ∷ slots_of s (suc at) (max x.time latest) items) (slots_of s (suc at) latest items)) k d).peak
      by true zero inside taken left = omega arith
      by true (suc k) inside taken left = let high = taken k (omega (arith, inside)) in omega (arith, high)
      by false k inside taken left = left k inside

  -- nor than the times of the stream's items up to it
  up_to : (whole : List Item) (at latest : ℕ) (items : List Item) → drop at whole ≡ items → (j k p : ℕ) (d : Slot) (e : Item) → j ≤ k → k < length (slots_of s at latest items)
      → (slice_index_or whole (slice_index_or (places_of s at items) j p) e).time ≤ (slice_index_or (slots_of s at latest items) k d).peak
  up_to whole at latest [] is j k p d e before within = absurd (omega (arith, within))
  up_to whole at latest (x ∷ items) is j k p d e before within =
      by (bytes_eq x.stream s) j k before within (ap (λ (y : Item). y.time) (front at whole x items e is))
      (λ j k low inside. up_to whole (suc at) (max x.time latest) items (drop-next at whole ∙ ap (λ l. drop 1 l) is) j k p d e low inside)
      (λ j k low inside. up_to whole (suc at) latest items (drop-next at whole ∙ ap (λ l. drop 1 l) is) j k p d e low inside)
      (λ k inside. above (suc at) (max x.time latest) items k d inside)
    where
      by : (b : Bool) (j k : ℕ) → j ≤ k → k < length (cond b (slot_at at x latest ∷ slots_of s (suc at) (max x.time latest) items) (slots_of s (suc at) latest items))
          → (slice_index_or whole at e).time ≡ x.time
          → ((j k : ℕ) → j ≤ k → k < length (slots_of s (suc at) (max x.time latest) items)
          → (slice_index_or whole (slice_index_or (places_of s (suc at) items) j p) e).time ≤ (slice_index_or (slots_of s (suc at) (max x.time latest) items) k d).peak)
          → ((j k : ℕ) → j ≤ k → k < length (slots_of s (suc at) latest items)
          → (slice_index_or whole (slice_index_or (places_of s (suc at) items) j p) e).time ≤ (slice_index_or (slots_of s (suc at) latest items) k d).peak)
          → ((k : ℕ) → k < length (slots_of s (suc at) (max x.time latest) items) → max x.time latest ≤ (slice_index_or (slots_of s (suc at) (max x.time latest) items) k d).peak)
          → (slice_index_or whole (slice_index_or (cond b (at ∷ places_of s (suc at) items) (places_of s (suc at) items)) j p) e).time
          ≤ (slice_index_or (cond b (slot_at at x latest ∷ slots_of s (suc at) (max x.time latest) items) (slots_of s (suc at) latest items)) k d).peak
      by true zero zero low inside here taken left high = omega (arith, here)
      by true zero (suc k) low inside here taken left high = let top = high k (omega (arith, inside)) in omega (arith, here, top)
      by true (suc j) zero low inside here taken left high = absurd (omega (arith, low))
      by true (suc j) (suc k) low inside here taken left high = taken j k (omega (arith, low)) (omega (arith, inside))
      by false j k low inside here taken left high = left j k low inside

  pub up-to-peak : (items : List Item) (j k p : ℕ) (d : Slot) (e : Item) → j ≤ k → k < length (slots_of s 0 0 items)
      → (slice_index_or items (slice_index_or (places_of s 0 items) j p) e).time ≤ (slice_index_or (slots_of s 0 0 items) k d).peak
  up-to-peak items j k p d e before within = up_to items 0 0 items refl j k p d e before within

  -- over slots a sum is that over their places
  slots-sum : (h : ℕ → ℤ) (at latest : ℕ) (items : List Item) → sum_z (λ (slot : Slot). h slot.place) (slots_of s at latest items) ≡ sum_z h (places_of s at items)
  slots-sum h at latest [] = refl
  slots-sum h at latest (x ∷ items) = by (bytes_eq x.stream s) (slots-sum h (suc at) (max x.time latest) items) (slots-sum h (suc at) latest items)
    where
      by : (b : Bool) → sum_z (λ (slot : Slot). h slot.place) (slots_of s (suc at) (max x.time latest) items) ≡ sum_z h (places_of s (suc at) items)
          → sum_z (λ (slot : Slot). h slot.place) (slots_of s (suc at) latest items) ≡ sum_z h (places_of s (suc at) items)
          → sum_z (λ (slot : Slot). h slot.place) (cond b (slot_at at x latest ∷ slots_of s (suc at) (max x.time latest) items) (slots_of s (suc at) latest items))
          ≡ sum_z h (cond b (at ∷ places_of s (suc at) items) (places_of s (suc at) items))
      by true taken left = omega (arith, ints, taken)
      by false taken left = left

-- what h makes of the item at a place
abbrev pub at_place : (Item → ℤ) → List Item → ℕ → ℤ
at_place h items place = sum_z h (take 1 (drop place items))

pub placed-is : (h : Item → ℤ) (items : List Item) (place : ℕ) (x : Item) → place < length items → x ≡ slice_index_or items place x → at_place h items place ≡ h x
placed-is h [] place x within is = absurd (omega (arith, within))
placed-is h (y ∷ items) zero x within is = let same = ap h (sym is) in omega (arith, ints, same)
placed-is h (y ∷ items) (suc place) x within is = placed-is h items place x (omega (arith, within)) is

pub placed-none : (h : Item → ℤ) (items : List Item) (place : ℕ) → ((x : Item) → h (slice_index_or items place x) ≡ pos 0) → at_place h items place ≡ pos 0
placed-none h [] zero none = refl
placed-none h [] (suc place) none = refl
placed-none h (y ∷ items) zero none = let here = none y in omega (arith, ints, here)
placed-none h (y ∷ items) (suc place) none = placed-none h items place none

-- and at a slot
abbrev pub at_slot : (Item → ℤ) → List Item → Slot → ℤ
at_slot h items slot = at_place h items slot.place

-- over the places, and so the slots, of a stream's items h makes the same as over all items, where it makes nothing of the others
placed-all : (s : List ℕ) (h : Item → ℤ) → ((x : Item) → bytes_eq x.stream s ≡ false → h x ≡ pos 0) → (whole : List Item) (at : ℕ) (items : List Item) → drop at whole ≡ items
    → sum_z (at_place h whole) (places_of s at items) ≡ sum_z h items
placed-all s h others whole at [] is = refl
placed-all s h others whole at (x ∷ items) is =
    by (bytes_eq x.stream s) refl (placed-all s h others whole (suc at) items (drop-next at whole ∙ ap (λ l. drop 1 l) is)) (ap (λ l. sum_z h (take 1 l)) is)
  where
    by : (b : Bool) → bytes_eq x.stream s ≡ b → sum_z (at_place h whole) (places_of s (suc at) items) ≡ sum_z h items → at_place h whole at ≡ sum_z h (x ∷ [])
        → sum_z (at_place h whole) (cond b (at ∷ places_of s (suc at) items) (places_of s (suc at) items)) ≡ sum_z h (x ∷ items)
    by true same rest here = omega (arith, ints, rest, here)
    by false other rest here = let none = others x other in omega (arith, ints, rest, none)

pub slotted-all : (s : List ℕ) (h : Item → ℤ) → ((x : Item) → bytes_eq x.stream s ≡ false → h x ≡ pos 0) → (items : List Item)
    → sum_z (at_slot h items) (slots_of s 0 0 items) ≡ sum_z h items
slotted-all s h others items = slots-sum s (at_place h items) 0 0 items ∙ placed-all s h others items 0 items refl

-- an item more in its stream's lane
pub filed-push : (lanes new : List (List ℕ × Lane)) (items : List Item) (item : Item) (place : ℕ) → AreFiled lanes items → place ≡ length items
    → ((s : List ℕ)
    → lane_of new s ≡ cond (bytes_eq item.stream s) (lane_of lanes item.stream ++ slot_behind (lane_of lanes item.stream) place item.time ∷ []) (lane_of lanes s))
    → AreFiled new (items ++ item ∷ [])
filed-push lanes new items item place filed last put s =
    let here : place ≡ 0 + length items = omega (arith, last) in
    put s ∙ (by (bytes_eq item.stream s) refl here ∙ sym (slots-push s 0 0 items item))
  where
    by : (b : Bool) → bytes_eq item.stream s ≡ b → place ≡ 0 + length items
        → cond b (lane_of lanes item.stream ++ slot_behind (lane_of lanes item.stream) place item.time ∷ []) (lane_of lanes s)
        ≡ slots_of s 0 0 items ++ cond b (slot_behind (slots_of s 0 0 items) (0 + length items) item.time ∷ []) []
    by true same here =
        (λ i.
        lane_of lanes ((bytes_eq-Decides item.stream s).0 same i)
        ++ slot_behind (lane_of lanes ((bytes_eq-Decides item.stream s).0 same i)) (here i) item.time ∷ [])
        ∙ ap (λ l. l ++ slot_behind l (0 + length items) item.time ∷ []) (filed s)
    by false other here = filed s ∙ sym (append-nil (slots_of s 0 0 items))
