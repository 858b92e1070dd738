-- Kept items stay in order, and of those in front that a window has looked at none enters.
use Rattle.std.proofs.Common.{◌≡◌, ℕ, zero, suc, ◌+◌, ◌<◌, ◌≤◌, Bool, true, false, true≢false, ◌&&◌, ◌||◌, cond, nat_le, bytes_eq, max, Option, None, Some, List, [], ◌∷◌, ◌++◌, ℤ, pos, drop, length, filter, slice_index_or, refl, sym, ap, ◌∙◌, arith}
use Rattle.std.specs.List.{AllByRecursion}
use Rattle.std.proofs.lemmas.Bool.Decides.{nat_tests}
use Rattle.std.proofs.lemmas.Int.{ints}
use Rattle.rsp_multiset.specs.Weights.{only, sum_z}
use Rattle.rsp_multiset.proofs.Sums.{sum_z-alike, sum_z-filter}
use Rattle.rsp_scope.proofs.Endings.{any-default}
use Rattle.rsp_scope.proofs.LaneLaws.{at_slot, place-within, placed-none, places-rise, slot-is, slot-place, slots-long, slotted-all, up-to-peak}
use Rattle.rsp_scope.specs.Lanes.{AreStale, is_new, places_of, slots_of}
use Rattle.rsp_scope.specs.Kept.{needed, shortened}
use Rattle.rsp_scope.specs.Moves.{Placed, enters, is_after, is_fresh, placed_as}
use Rattle.rsp_scope.specs.Order.{AreInOrder, AreRising, number_of}
use Rattle.rsp_scope.specs.declared.gate.Gate.{Gate}
use Rattle.rsp_scope.specs.declared.item.Item.{Item}
use Rattle.rsp_scope.specs.declared.lanes.Slot.{Slot}

module _ {X : Type 0} (P : X → Type 0) where
  all-filter : (p : X → Bool) (xs : List X) → AllByRecursion P xs → AllByRecursion P (filter p xs)
  all-filter p [] h = h
  all-filter p (x ∷ xs) h = by (p x) (all-filter p xs h.1)
    where
      by : (b : Bool) → AllByRecursion P (filter p xs) → AllByRecursion P (cond b (x ∷ filter p xs) (filter p xs))
      by true rest = (h.0, rest)
      by false rest = rest

  pub all-push : (xs : List X) (y : X) → AllByRecursion P xs → P y → AllByRecursion P (xs ++ y ∷ [])
  all-push [] y h last = (last, h)
  all-push (x ∷ xs) y h last = (h.0, all-push xs y h.1 last)

all-weaker : {X : Type 0} (P Q : X → Type 0) → ((x : X) → P x → Q x) → (xs : List X) → AllByRecursion P xs → AllByRecursion Q xs
all-weaker P Q weaker [] h = h
all-weaker P Q weaker (x ∷ xs) h = (weaker x h.0, all-weaker P Q weaker xs h.1)

-- what speaks of numbers and times alone doesn't see new ends
all-shortened : (P : Item → Type 0) → ((item : Item) (end : ℕ) → P item → P (record item { end = end })) → (items : List Item) (untils : List (Option ℕ)) → AllByRecursion P items → AllByRecursion P (shortened items untils)
all-shortened P same [] untils h = h
all-shortened P same (item ∷ items) [] h = tt
all-shortened P same (item ∷ items) (None ∷ untils) h = all-shortened P same items untils h.1
all-shortened P same (item ∷ items) (Some end ∷ untils) h = (same item end h.0, all-shortened P same items untils h.1)

module _ (n : Item → ℕ) where
  rising-filter : (p : Item → Bool) (items : List Item) → AreRising n items → AreRising n (filter p items)
  rising-filter p [] h = h
  rising-filter p (item ∷ items) h = by (p item) (rising-filter p items h.1)
    where
      by : (b : Bool) → AreRising n (filter p items) → AreRising n (cond b (item ∷ filter p items) (filter p items))
      by true rest = (all-filter (λ (x : Item). n item ≤ n x) p items h.0, rest)
      by false rest = rest

  rising-push : (items : List Item) (item : Item) → AreRising n items → AllByRecursion (λ (x : Item). n x ≤ n item) items → AreRising n (items ++ item ∷ [])
  rising-push [] item h low = (h, h)
  rising-push (x ∷ items) item h low = (all-push (λ (y : Item). n x ≤ n y) items item h.0 low.0, rising-push items item h.1 low.1)

  first-least : (m : ℕ) (items : List Item) (j : ℕ) (d : Item) → AllByRecursion (λ (x : Item). m ≤ n x) items → j < length items → m ≤ n (slice_index_or items j d)
  first-least m [] j d h within = absurd (omega (arith, within))
  first-least m (x ∷ items) zero d h within = h.0
  first-least m (x ∷ items) (suc j) d h within = first-least m items j d h.1 (omega (arith, within))

  rising-at : (items : List Item) (i j : ℕ) (d : Item) → AreRising n items → i ≤ j → j < length items → n (slice_index_or items i d) ≤ n (slice_index_or items j d)
  rising-at [] i j d h before within = absurd (omega (arith, within))
  rising-at (x ∷ items) zero zero d h before within = omega arith
  rising-at (x ∷ items) zero (suc j) d h before within = first-least (n x) items j d h.0 (omega (arith, within))
  rising-at (x ∷ items) (suc i) zero d h before within = absurd (omega (arith, before))
  rising-at (x ∷ items) (suc i) (suc j) d h before within = rising-at items i j d h.1 (omega (arith, before)) (omega (arith, within))

numbers-shortened : (items : List Item) (untils : List (Option ℕ)) → AreRising number_of items → AreRising number_of (shortened items untils)
numbers-shortened [] untils h = h
numbers-shortened (item ∷ items) [] h = tt
numbers-shortened (item ∷ items) (None ∷ untils) h = numbers-shortened items untils h.1
numbers-shortened (item ∷ items) (Some end ∷ untils) h = (all-shortened (λ (x : Item). item.number ≤ x.number) (λ x e k. k) items untils h.0, numbers-shortened items untils h.1)

module _ (accepted : ℕ) where
  abbrev Below : Item → Type 0
  Below item = item.number < accepted

  pub order-needed : (next : ℕ) (items : List Item) → AreInOrder accepted items → AreInOrder accepted (needed next items)
  order-needed next items h =
      record {
        below = all-filter Below (λ (item : Item). nat_le next item.end) items h.below;
        numbers = rising-filter number_of (λ (item : Item). nat_le next item.end) items h.numbers;
      }

  pub order-shortened : (items : List Item) (untils : List (Option ℕ)) → AreInOrder accepted items → AreInOrder accepted (shortened items untils)
  order-shortened items untils h =
      record {
        below = all-shortened Below (λ x e k. k) items untils h.below;
        numbers = numbers-shortened items untils h.numbers;
      }

  pub order-pushed : (items : List Item) (item : Item) (accepted' : ℕ) → accepted' ≡ accepted + 1 → item.number ≡ accepted → AreInOrder accepted items
      → AreInOrder accepted' (items ++ item ∷ [])
  order-pushed items item accepted' next numbered h =
      record {
        below = all-push (λ (x : Item). x.number < accepted') items item (all-weaker Below (λ (x : Item). x.number < accepted') (λ x k. omega (arith, k, next)) items h.below) (omega (arith, numbered, next));
        numbers = rising-push number_of items item h.numbers (all-weaker Below (λ (x : Item). x.number ≤ item.number) (λ x k. omega (arith, k, numbered)) items h.below);
      }

-- an item that isn't fresh, and those before it
stale : (seen : ℕ) (since : Option ℕ) (number time number' time' : ℕ) → number' ≤ number → time' ≤ time → is_fresh seen since number time ≡ false → is_fresh seen since number' time' ≡ false
stale seen None number time number' time' low early is = absurd (by (nat_le seen number) is)
  where
    by : (b : Bool) → (b || true) ≡ false → ⊥
    by true h = true≢false h
    by false h = true≢false h
stale seen (Some at) number time number' time' low early is = grind (arith, nat_tests, low, early, is)

-- so the peak at a slot tells of it and of all before it in the lane
pub stale-before : (gate : Gate) (items : List Item) (slots : List Slot) (at k p : ℕ) (slot : Slot) (here item : Item) → AreRising number_of items
    → slots ≡ slots_of gate.stream 0 0 items
    → at < length slots
    → k ≤ at
    → slot ≡ slice_index_or slots at slot
    → here ≡ slice_index_or items slot.place here
    → is_fresh gate.seen gate.since here.number slot.peak ≡ false
    → is_new gate (slice_index_or items (slice_index_or (places_of gate.stream 0 items) k p) item) ≡ false
stale-before gate items slots at k p slot here item numbers same within before is found old =
    let long = ap (λ (l : List Slot). length l) same in
    let inside : at < length (places_of gate.stream 0 items) = omega (arith, within, long, slots-long gate.stream 0 0 items) in
    let place = slot-is gate.stream slots items at p slot same within is in
    let low = place-within gate.stream items at p inside in
    let below : slot.place < length items = omega (arith, place, low) in
    let first = slice_index_or items (slice_index_or (places_of gate.stream 0 items) k p) item in
    let last = slice_index_or items (slice_index_or (places_of gate.stream 0 items) at p) item in
    let whose : here ≡ last = found ∙ (any-default items slot.place here item below ∙ ap (λ n. slice_index_or items n item) place) in
    let number : first.number ≤ last.number
    = rising-at number_of items (slice_index_or (places_of gate.stream 0 items) k p) (slice_index_or (places_of gate.stream 0 items) at p) item numbers
    (places-rise gate.stream items k at p before inside)
    low
    in
    let time : first.time ≤ (slice_index_or (slots_of gate.stream 0 0 items) at slot).peak = up-to-peak gate.stream items k at p slot item before (omega (arith, within, long)) in
    let peak : slot.peak ≡ (slice_index_or (slots_of gate.stream 0 0 items) at slot).peak = ap (λ (x : Slot). x.peak) (is ∙ ap (λ l. slice_index_or l at slot) same) in
    stale gate.seen gate.since last.number slot.peak first.number first.time number (omega (arith, time, peak))
    (ap (λ (x : Item). is_fresh gate.seen gate.since x.number slot.peak) (sym whose) ∙ old)

skipped : {X : Type 0} (h : X → ℤ) (xs : List X) (n : ℕ) → ((k : ℕ) (d : X) → k < n → h (slice_index_or xs k d) ≡ pos 0) → n ≤ length xs → sum_z h (drop n xs) ≡ sum_z h xs
skipped h xs zero none within = refl
skipped h [] (suc n) none within = absurd (omega (arith, within))
skipped h (x ∷ xs) (suc n) none within =
    let first : h x ≡ pos 0 = none 0 x (omega arith) in
    let rest = skipped h xs n (λ k d below. none (suc k) d (omega (arith, below))) (omega (arith, within)) in
    omega (arith, ints, first, rest)

not-fresh : (k a b c l f : Bool) (n : ℤ) → f ≡ false → only (k && (a && (b && (c && (l && f))))) n ≡ pos 0
not-fresh true true true true true f n is = ap (λ b. only b n) is
not-fresh true true true true false f n is = refl
not-fresh true true true false l f n is = refl
not-fresh true true false c l f n is = refl
not-fresh true false b c l f n is = refl
not-fresh false a b c l f n is = refl

not-on : (k a b r : Bool) (n : ℤ) → b ≡ false → only (k && (a && (b && r))) n ≡ pos 0
not-on true true b r n is = ap (λ c. only (c && r) n) is
not-on true false b r n is = refl
not-on false a b r n is = refl

only-both : (a b : Bool) (n : ℤ) → only (a && b) n ≡ only a (only b n)
only-both true b n = refl
only-both false b n = refl

-- what of an item enters, if it is kept
abbrev pub passing : Gate → ℕ → (Placed → ℤ) → Item → ℤ
passing gate cut f item = only (nat_le cut item.end && enters gate item) (f (placed_as item))

-- of the items at the slots in front that aren't fresh none enters, nor any of another stream; so what enters of the rest
-- of the lane is what enters of the kept items
pub fresh-kept : (gate : Gate) (cut : ℕ) (items : List Item) (start : ℕ) (f : Placed → ℤ) → AreStale gate items start → start ≤ length (slots_of gate.stream 0 0 items)
    → sum_z (at_slot (passing gate cut f) items) (drop start (slots_of gate.stream 0 0 items))
    ≡ sum_z (λ (item : Item). only (enters gate item) (f (placed_as item))) (needed cut items)
fresh-kept gate cut items start f front within =
    skipped (at_slot (passing gate cut f) items) (slots_of gate.stream 0 0 items) start
    (λ k slot below.
    placed-none (passing gate cut f) items (slice_index_or (slots_of gate.stream 0 0 items) k slot).place
    (λ d.
    let item = slice_index_or items (slice_index_or (slots_of gate.stream 0 0 items) k slot).place d in
    let place : (slice_index_or (slots_of gate.stream 0 0 items) k slot).place ≡ slice_index_or (places_of gate.stream 0 items) k 0
    = slot-place gate.stream 0 0 items k 0 slot (omega (arith, below, within))
    in
    not-fresh (nat_le cut item.end) (nat_le gate.first item.number) (bytes_eq item.stream gate.stream) (is_after gate.opening item.time) (nat_le item.time gate.until) (is_fresh gate.seen gate.since item.number item.time) (f (placed_as item))
    (ap (λ n. is_new gate (slice_index_or items n d)) place ∙ front k 0 d below)))
    within
    ∙ (slotted-all gate.stream (passing gate cut f)
    (λ item other.
    not-on (nat_le cut item.end) (nat_le gate.first item.number) (bytes_eq item.stream gate.stream)
    (is_after gate.opening item.time && (nat_le item.time gate.until && is_fresh gate.seen gate.since item.number item.time))
    (f (placed_as item))
    other)
    items
    ∙ (sum_z-alike (passing gate cut f) (λ (item : Item). only (nat_le cut item.end) (only (enters gate item) (f (placed_as item)))) (λ item. only-both (nat_le cut item.end) (enters gate item) (f (placed_as item))) items
    ∙ sym (sum_z-filter (λ (item : Item). only (enters gate item) (f (placed_as item))) (λ (item : Item). nat_le cut item.end) items)))
