-- An accepted event leads from an idle engine that stands for a world to one that stands for the next.
use Rattle.std.proofs.Common.{◌≡◌, ℕ, suc, ◌+◌, ◌-◌, ◌^◌, ◌+ℤ◌, ◌<◌, ◌≤◌, Bool, true, false, true≢false, cond, List, [], ◌∷◌, ◌++◌, length, map, filter, remove, slice_get, take, Option, None, Some, Result, Ok, Err, refl, sym, ◌∙◌, ap, subst, arith, nat_lt, nat_le, nat_eq, min, max, ◌&&◌, unwrap_or, bytes_eq}
use Rattle.std.proofs.lemmas.Grind.{flat_map-append}
use Rattle.std.proofs.lemmas.Int.{ints}
use Rattle.std.proofs.lemmas.List.{append-nil, map_push}
use Rattle.std.proofs.lemmas.List.Elements.{All-append, All-cons, All-map, All-weaker}
use Rattle.std.proofs.lemmas.List.Sums.{sum_by-append, sum_by-cons}
use Rattle.std.proofs.lemmas.Bool.{le-leb, le-ltb, lt-leb, lt-ltb, ltb-false}
use Rattle.std.proofs.lemmas.Bool.Decides.{nat_tests}
use Rattle.std.proofs.lemmas.Option.{same_Some}
use Rattle.std.specs.Prelude.{IfErr, IsOk, OnOk, if◌then◌else◌, slice_index_or}
use Rattle.std.specs.List.{All, IsDistinct, flat_map, list_any, range_with_len, sum_by}
use Rattle.std.specs.Option.{option_map_or}
use Rattle.std.specs.Result.{result_err}
use Rattle.std.specs.Cmp.Lexicographic.{bytes_decides}
use Rattle.rsp_terms.specs.Same.{fact_eq}
use Rattle.rsp_multiset.specs.Weights.{IsSameMultiset, times}
use Rattle.rsp_terms.specs.declared.statement.Fact.{Fact}
use Rattle.rsp_terms.specs.declared.statement.Quad.{Quad}
use Rattle.rsp_scope.specs.declared.stored.StoredFault.TheVariants.{StoreFull}
use Rattle.rsp_scope.specs.Logged.{Log}
use Rattle.rsp_scope.specs.Contents.{Accepted, Numbered, Watch, numbered}
use Rattle.rsp_scope.specs.Ends.{EndsAt, IsKept}
use Rattle.rsp_scope.specs.Faults.{IsStoredFault}
use Rattle.rsp_scope.specs.Kept.{Kept, needed, taken, triples_of}
use Rattle.rsp_scope.specs.declared.item.Item.{Item as KeptItem}
use Rattle.rsp_scope.specs.Logged.{since}
use Rattle.rsp_scope.specs.Moves.{Followed, HasSeen}
use Rattle.rsp_scope.specs.Needed.{is_needed, listed_triples, needed_items}
use Rattle.rsp_scope.specs.Quads.{stored_with, stored_without}
use Rattle.rsp_scope.proofs.Needed.{begun, held_falls, held_is, joined, none_kept}
use Rattle.rsp_scope.proofs.Needed as needs
use Rattle.rsp_scope.proofs.Needs.{needed-earlier}
use Rattle.rsp_scope.proofs.StoredLaws.{as-many-stored_with, same-stored_with, same-stored_without}
use Rattle.rsp_events.specs.declared.event.Event.{Event}
use Rattle.rsp_events.specs.declared.event.Event.TheVariants.{Cancel, Delete, Insert, Item, Register, Tick}
use Rattle.rsp_terms.specs.declared.statement.Triple.{Triple}
use Rattle.rsp_query.specs.Queries.{Registered}
use Rattle.rsp_report.specs.Policies.{is_mixed}
use Rattle.rsp_syntax.specs.Deciding.{parse}
use Rattle.rsp_translation.specs.Translation.{first_fault}
use Rattle.rsp_engine.specs.declared.live_query.StreamWindow.{StreamWindow}
use Rattle.rsp_engine.specs.declared.refused.Refused.TheVariants as answer
use Rattle.rsp_engine.specs.declared.refused.Refused.{Refused}
use Rattle.rsp_engine.specs.Offers.{Offers, Refuses}
use Rattle.rsp_engine.specs.declared.refused.TextFault.{TextFault}
use Rattle.rsp_engine.specs.Refusals.{query_fault, read, text_fault}
use Rattle.rsp_engine.specs.World.{Query, Reading, Registration, World, empty_world, next_of, next_with, registrations}
use Rattle.rsp_engine.specs.Readings.{reading_of}
use Rattle.rsp_spec.specs.Limits.{most_held, most_quads, most_queries, most_triples}
use Rattle.rsp_engine.specs.Accept.{accept, has_name, has_slack_tuple, is_live, new_query, starts_overfull, with_item, without}
use Rattle.rsp_engine.specs.Contents.{watches, watches_from}
use Rattle.rsp_engine.specs.Seeing.{is_due_over}
use Rattle.rsp_engine.specs.Keeping.{IsUnmoved, excess}
use Rattle.rsp_engine.specs.Kept.{held, watches_of}
use Rattle.rsp_engine.specs.Left.{IsFirstLeft, left_from, name_in, reports_at}
use Rattle.rsp_engine.specs.Due.{is_due_on}
use Rattle.rsp_engine.specs.Moments.{Moment, due_moments, moments, moments_at, moments_from, moments_on}
use Rattle.rsp_engine.specs.Passing.{Begins, Passes, came_over, is_refused_slack, next_after, unwatched}
use Rattle.rsp_engine.specs.Stands.{Fits, Follows, HaveSeen, Live, Saw, Stands, State, asked_in, asked_of, cut_of, facts_followed, left_in, next_in, registration_of, registrations_in, test_in, watches_in}
use Rattle.rsp_engine.specs.Watching.{Tells, name_of}
use Rattle.rsp_engine.specs.Bounds.{IsWorld}
use Rattle.rsp_engine.proofs.Bounds.{delete_keeps, empty_keeps, item_keeps, register_keeps, stored_keeps, tick_keeps, watches_push, without_keeps}
use Rattle.rsp_engine.proofs.Fitting.{same_regs}
use Rattle.rsp_engine.proofs.Left.{first_left_is, instants, read_left, same_left, waits_at}
use Rattle.rsp_engine.proofs.Named.{remove_map, remove_named}
use Rattle.rsp_engine.proofs.Seen.{name_of_query, saw_new, seen_more, seen_removed, world_at, world_names}
use Rattle.rsp_engine.proofs.Standing.{any_named, head_is, none_is, same_count, same_live}
use Rattle.rsp_engine.proofs.Watches.{reports_same}

pub same_bytes : (name : List ℕ) → bytes_eq name name ≡ true
same_bytes name = (bytes_decides name name).1 refl

-- the engine stands for the world that the event makes, and for the event's moments
abbrev pub Leads : World → Event → State → Type 0
Leads world event new = (after : World) × (accept world event ≡ Ok after) × Stands new after (moments world event after)

-- ---- time that passes

-- the instants that became complete
complete : (world : World) (to : ℕ) (before : Option ℕ) → world.next ≡ Some to → unwrap_or before to ≤ to
    → flat_map (due_moments world) (range_with_len (unwrap_or before to) (to - unwrap_or before to)) ≡ option_map_or (λ from. moments_from world from) before []
complete world to None is low = let none : to - to ≡ 0 = omega arith in rw none refl
complete world to (Some from) is low = rw is refl

-- nothing arrived
none_pass : {X : Type 0} (xs : List X) → filter (λ _. false) xs ≡ []
none_pass [] = refl
none_pass (x ∷ xs) = none_pass xs

-- the moments on what arrived over this stream, if something did
abbrev arrivals : World → Option (List ℕ) → ℕ → List Moment
arrivals world came to =
    moments_at (λ query. option_map_or (λ stream. is_due_over world.items query stream to) came false) (registrations world) to

-- what the queries of a world report by, where nothing but the times that they watch has changed
seen_alike : (lives news : List Live) (queries : List Query) → map unwatched news ≡ map unwatched lives → HaveSeen lives queries → HaveSeen news queries
seen_alike [] [] queries is have = have
seen_alike [] (new ∷ news) queries is have = cc
seen_alike (live ∷ lives) [] queries is have = cc
seen_alike (live ∷ lives) (new ∷ news) [] is have = absurd have
seen_alike (live ∷ lives) (new ∷ news) (query ∷ queries) is have =
    let first : unwatched live ≡ unwatched new = cc in
    let rest : map unwatched news ≡ map unwatched lives = cc in
    (subst (λ (l : Live). Saw l query) first have.0, seen_alike lives news queries rest have.1)

-- an engine that passed to an instant stands for the world with the new items, and for the moments of what became complete and
-- arrived
module _ (old new : State) (more : List Accepted) (came : Option (List ℕ)) (to : ℕ) (world : World)
    (passes : Passes old more came to new) (stands : Stands old world []) (low : unwrap_or old.next to ≤ to) (high : next_in old ≤ unwrap_or old.next to) where
  abbrev after : World
  after = record world { next = Some to; items = world.items ++ more }

  regs : registrations_in new ≡ registrations after
  regs = same_regs old.queries new.queries passes.queries ∙ stands.queries

  first_here : IsFirstLeft name_of (test_in new) (asked_in new) (next_in new) (unwrap_or old.next to) 0 new.first
  first_here = rw (passes.next, passes.arrived) passes.first

  -- by what they watch the queries report as by the world's items
  alike : (t : ℕ) → unwrap_or old.next to ≤ t → t ≤ next_in new
      → All (λ (live : Live). test_in new t (asked_of live) ≡ reports_at after.items (next_in new) new.arrived t (registration_of live)) new.queries
  alike t late early =
      All-weaker (λ (live : Live). Tells after.items (next_in old) (registration_of live) live.watched)
      (λ (live : Live). test_in new t (asked_of live) ≡ reports_at after.items (next_in new) new.arrived t (registration_of live))
      (λ live tells. reports_same after.items (next_in old) (next_in new) new.arrived live tells t (omega (arith, high, late)) early)
      new.queries (passes.told world.items stands.fits)

  named : left_from name_in (reports_at after.items (next_in new) new.arrived) (registrations_in new) (next_in new) (unwrap_or old.next to) 0
      ≡ left_from name_in (reports_at after.items to came) (registrations after) to (unwrap_or old.next to) 0
  named = rw (passes.arrived, regs, passes.next) refl

  -- the moments left are those of the world
  left_is : left_in new ≡ option_map_or (λ from. moments_from after from) world.next [] ++ arrivals after came to
  left_is =
      let from : ℕ = unwrap_or old.next to in
      let below : unwrap_or old.next to ≤ next_in new = rw passes.next low in
      let before : unwrap_or old.next to ≡ unwrap_or world.next to = ap (λ n. unwrap_or n to) stands.next in
      let low_world : unwrap_or world.next to ≤ to = subst (λ n. n ≤ to) before low in
      let whole = first_left_is name_of (test_in new) (asked_in new) (next_in new) (unwrap_or old.next to) 0 new.first first_here in
      let of_lives = read_left asked_of name_of (test_in new) new.queries (next_in new) (unwrap_or old.next to) 0 in
      let by_world = same_left (λ (live : Live). live.name) (λ t (live : Live). test_in new t (asked_of live)) (λ t (live : Live). reports_at after.items (next_in new) new.arrived t (registration_of live)) new.queries (next_in new) (unwrap_or old.next to) 0 below alike in
      let of_world = read_left registration_of name_in (reports_at after.items (next_in new) new.arrived) new.queries (next_in new) (unwrap_or old.next to) 0 in
      let split = instants after.items to came (registrations after) (unwrap_or world.next to) low_world in
      let done = complete after to world.next refl low_world in
      whole ∙ (sym of_lives ∙ (by_world ∙ (of_world ∙ (named ∙ (ap (λ from. left_from name_in (reports_at after.items to came) (registrations after) to from 0) before
      ∙ (split ∙ ap (λ ms. ms ++ arrivals after came to) done))))))

  pub passed : IsWorld after → Stands new after (option_map_or (λ from. moments_from after from) world.next [] ++ arrivals after came to)
  passed bounds =
      let waits = waits_at name_of (test_in new) (asked_in new) (next_in new) (unwrap_or old.next to) 0 new.first first_here in
      record {
        ready = passes.broken;
        slack = passes.slack ∙ stands.slack;
        next = passes.next;
        fits = passes.fits world.items stands.fits;
        bounds = bounds;
        stored = subst (λ fs. IsSameMultiset fact_eq fs world.stored) (sym passes.stored) stands.stored;
        queries = regs;
        seen = seen_alike old.queries new.queries world.queries passes.queries stands.seen;
        moments = sym left_is;
        head = head_is new _ (sym left_is) waits;
        none = none_is new _ (sym left_is) waits;
      }

-- what is due is not before `next`
pub low_of : (next : Option ℕ) (to : ℕ) → unwrap_or next 0 ≤ to → unwrap_or next to ≤ to
low_of None to low = omega arith
low_of (Some n) to low = low

pub high_of : (next : Option ℕ) (to : ℕ) → unwrap_or next 0 ≤ unwrap_or next to
high_of None to = omega arith
high_of (Some n) to = omega arith

-- ---- what is kept

pub idle_cut : (e : State) → e.first ≡ None → cut_of e ≡ next_in e
idle_cut e idle = rw idle refl

-- where no moment is left, what is kept is what the world holds
pub held_here : (e : State) (world : World) → e.first ≡ None → Stands e world [] → triples_of e.kept.items ≡ held world
held_here e world idle stands =
    held_is (cut_of e) (watches_in e) world.items e.kept stands.fits.kept
    ∙ ((λ k. listed_triples (needed_items (idle_cut e idle k) (watches_of (stands.queries k)) world.items))
    ∙ ap (λ n. listed_triples (needed_items (unwrap_or n 0) (watches_of (registrations world)) world.items)) stands.next)

pub tick_leads : (old new : State) (time : ℕ) (world : World) → next_in old ≤ time + 1 → Passes old [] None (time + 1) new → Stands old world [] → Leads world (Tick time) new
tick_leads old new time world late passes stands =
    let after : World = record world { next = Some (time + 1) } in
    let late_world : next_of world ≤ time + 1 = rw stands.next at late in
    let in_time : nat_lt (time + 1) (next_of world) ≡ false = le-ltb _ _ late_world in
    let bounds : IsWorld after = tick_keeps world stands.bounds time late_world in
    let there = passed old new [] None (time + 1) world passes stands (low_of old.next (time + 1) late) (high_of old.next (time + 1)) (rw (append-nil world.items) bounds) in
    let nothing : arrivals after None (time + 1) ≡ [] = ap (map _) (none_pass (registrations after)) in (
      after,
      rw in_time refl,
      rw (append-nil world.items, nothing) at there,
    )

-- an item completes no instant before `next`, and none behind its own time
pub after_low : (old : State) (time : ℕ) → next_in old ≤ next_after old time
after_low old time = omega arith

pub after_high : (old : State) (time : ℕ) → next_in old ≤ time → next_after old time ≤ time
after_high old time late = omega (arith, late)

-- in the world as in the engine
pub after_is : (old : State) (world : World) (time : ℕ) → Stands old world [] → next_with world time ≡ next_after old time
after_is old world time stands = λ i. max (unwrap_or (sym stands.next i) 0) (time - sym stands.slack i)

-- with an item as many are kept as before and its own, where it is needed, from an instant on that isn't behind its time
held_with_at : (cut n : ℕ) (watches : List Watch) (items : List Accepted) (kept : Kept) (item : Accepted) (e : ℕ) → IsKept cut watches items kept
    → cut ≤ n → n ≤ item.time → EndsAt watches (record { number = length items; item = item }) (Some e)
    → triples_of (needed n kept.items) + length item.graph ≡ listed_triples (needed_items n watches (items ++ item ∷ []))
held_with_at cut n watches items kept item e is on early ends =
    let new : KeptItem = record { number = kept.accepted; stream = item.stream; time = item.time; graph = item.graph; end = e } in
    let now = record kept { items = needed n kept.items } in
    sym (sum_by-append (λ (i : KeptItem). length i.graph) (needed n kept.items) (new ∷ []) ∙ omega arith)
    ∙ held_is n watches (items ++ item ∷ []) (taken now item.stream item.time item.graph (Some e))
    (joined n watches items now item (Some e) (needs.passed cut n watches items kept is on) early ends)

-- or isn't
held_without_at : (cut n : ℕ) (watches : List Watch) (items : List Accepted) (kept : Kept) (item : Accepted) → IsKept cut watches items kept
    → cut ≤ n → n ≤ item.time → EndsAt watches (record { number = length items; item = item }) None
    → triples_of (needed n kept.items) ≡ listed_triples (needed_items n watches (items ++ item ∷ []))
held_without_at cut n watches items kept item is on early ends =
    let now = record kept { items = needed n kept.items } in
    held_is n watches (items ++ item ∷ []) (taken now item.stream item.time item.graph None)
    (joined n watches items now item None (needs.passed cut n watches items kept is on) early ends)

-- how many triples would be kept with an item
module _ (old : State) (world : World) (item : Accepted) (idle : old.first ≡ None) (stands : Stands old world []) (late : next_in old ≤ item.time) where
  abbrev to : ℕ
  to = next_after old item.time

  abbrev with_it : ℕ
  with_it = listed_triples (needed_items to (watches_in old) (world.items ++ item ∷ []))

  pub held_in_world : held (with_item world item) ≡ with_it
  held_in_world = λ i.
      listed_triples
      (needed_items (after_is old world item.time stands i) (watches_of (sym stands.queries i)) (world.items ++ item ∷ []))

  cut_low : cut_of old ≤ to
  cut_low = rw (idle_cut old idle) (after_low old item.time)

  pub with_end : (end : ℕ) → EndsAt (watches_in old) (record { number = old.kept.accepted; item = item }) (Some end)
      → triples_of (needed to old.kept.items) + length item.graph ≡ held (with_item world item)
  with_end end ends =
      held_with_at (cut_of old) to (watches_in old) world.items old.kept item end stands.fits.kept cut_low (after_high old item.time late)
      (subst (λ n. EndsAt (watches_in old) (record { number = n; item = item }) (Some end)) stands.fits.kept.accepted ends) ∙ sym held_in_world

  without_end : EndsAt (watches_in old) (record { number = old.kept.accepted; item = item }) None → held (with_item world item) ≤ most_held
  without_end ends =
      let is = held_without_at (cut_of old) to (watches_in old) world.items old.kept item stands.fits.kept cut_low (after_high old item.time late)
      (subst (λ n. EndsAt (watches_in old) (record { number = n; item = item }) None) stands.fits.kept.accepted ends) in
      let less = held_falls to old.kept.items in
      let here = held_here old world idle stands in
      let before = stands.bounds.few in
      let there = held_in_world in
      omega (arith, is, less, here, before, there)

  -- not too many, where none are said to be
  pub in_bounds : (end : Option ℕ) → EndsAt (watches_in old) (record { number = old.kept.accepted; item = item }) end
      → option_map_or (λ _. excess old.kept to (length item.graph)) end None ≡ None → held (with_item world item) ≤ most_held
  in_bounds None ends none = without_end ends
  in_bounds (Some end) ends none = by (nat_lt 1000000 (triples_of (needed to old.kept.items) + length item.graph)) refl none
    where
      by : (b : Bool) → nat_lt 1000000 (triples_of (needed to old.kept.items) + length item.graph) ≡ b
          → (if b then Some (min (triples_of (needed to old.kept.items) + length item.graph) (2 ^ 64 - 1)) else None) ≡ None → held (with_item world item) ≤ most_held
      by true is none = cc
      by false is none = let most = ltb-false 1000000 (triples_of (needed to old.kept.items) + length item.graph) is in let whole = with_end end ends in omega (arith, most, whole)

  -- too many, and how many
  pub out_of_bounds : (end : Option ℕ) (many : ℕ) → EndsAt (watches_in old) (record { number = old.kept.accepted; item = item }) end → length item.graph ≤ most_triples
      → option_map_or (λ _. excess old.kept to (length item.graph)) end None ≡ Some many → (nat_lt most_held (held (with_item world item)) ≡ true) × (held (with_item world item) ≡ many)
  out_of_bounds None many ends small is = cc
  out_of_bounds (Some end) many ends small is = by (nat_lt 1000000 (triples_of (needed to old.kept.items) + length item.graph)) refl is
    where
      by : (b : Bool) → nat_lt 1000000 (triples_of (needed to old.kept.items) + length item.graph) ≡ b
          → (if b then Some (min (triples_of (needed to old.kept.items) + length item.graph) (2 ^ 64 - 1)) else None) ≡ Some many
          → (nat_lt most_held (held (with_item world item)) ≡ true) × (held (with_item world item) ≡ many)
      by false test is = cc
      by true test is =
          let whole = with_end end ends in
          let over : nat_lt most_held (held (with_item world item)) ≡ true = subst (λ n. nat_lt most_held n ≡ true) whole test in
          let less = held_falls to old.kept.items in
          let here = held_here old world idle stands in
          let before = stands.bounds.few in
          let low : min (triples_of (needed to old.kept.items) + length item.graph) (2 ^ 64 - 1) ≡ triples_of (needed to old.kept.items) + length item.graph = grind (arith, less, here, before, small) in
          (over, sym whole ∙ (sym low ∙ same_Some _ _ is))

-- none passes of those of which each fails
none_left : {X : Type 0} (p : X → Bool) (xs : List X) → All (λ x. p x ≡ false) xs → filter p xs ≡ []
none_left p [] all = refl
none_left p (x ∷ xs) all =
    let first : p x ≡ false = all 0 x (omega arith) in
    rw first (none_left p xs (λ k d below. all (suc k) d (omega (arith, below))))

-- what arrived are the moments on the item: without a slack all is complete up to its time, and under one no query looks at items
module _ (old : State) (world : World) (item : Accepted) (stands : Stands old world []) (late : next_in old ≤ item.time) where
  abbrev taken_in : World
  taken_in = with_item world item

  abbrev on_item : Registration → Bool
  on_item query = is_due_on taken_in.items query item

  abbrev moment_at : ℕ → Registration → Moment
  moment_at t query = record { at = t; query = query.name }

  by_instants : 0 < old.slack → All (λ (query : Registration). on_item query ≡ false) (registrations world)
  by_instants slack =
      All-map (λ (query : Registration). on_item query ≡ false) (λ (query : Query). query.registration) world.queries
      (All-weaker (λ (query : Query). query.registration.reading.policy.tuple ≡ false) (λ (query : Query). on_item query.registration ≡ false)
      (λ query none. rw none refl) world.queries (stands.bounds.instants (subst (λ n. 0 < n) stands.slack slack)))

  pub arrivals_are : arrivals taken_in (came_over old item.stream) (next_after old item.time)
      ≡ moments_on taken_in (Item item.stream item.time item.graph)
  arrivals_are = by (nat_eq old.slack 0) refl
    where
      by : (none : Bool) → nat_eq old.slack 0 ≡ none
          → arrivals taken_in (if none then Some item.stream else None) (next_after old item.time)
          ≡ moments_on taken_in (Item item.stream item.time item.graph)
      by true test =
          let slack : old.slack ≡ 0 = grind (arith, nat_tests, test) in
          let at : next_after old item.time ≡ item.time = omega (arith, slack, late) in
          ap (λ t. moments_at (λ query. is_due_over taken_in.items query item.stream t) (registrations world) t) at
      by false test =
          let slack : 0 < old.slack = grind (arith, nat_tests, test) in
          ap (map (moment_at (next_after old item.time))) (none_pass (registrations world))
          ∙ sym (ap (map (moment_at item.time)) (none_left on_item (registrations world) (by_instants slack)))

-- an item that was taken, and time that passed
pub item_leads : (old new : State) (stream : List ℕ) (time : ℕ) (graph : List Triple) (end : Option ℕ) (world : World) → old.first ≡ None → length graph ≤ most_triples → next_in old ≤ time
    → EndsAt (watches_in old) (record { number = old.kept.accepted; item = record { stream = stream; time = time; graph = graph } }) end
    → option_map_or (λ _. excess old.kept (next_after old time) (length graph)) end None ≡ None
    → Passes old (record { stream = stream; time = time; graph = graph } ∷ []) (came_over old stream) (next_after old time) new → Stands old world [] → Leads world (Item stream time graph) new
item_leads old new stream time graph end world idle small late ends none passes stands =
    let item : Accepted = record { stream = stream; time = time; graph = graph } in
    let few = in_bounds old world item idle stands late end ends none in
    let in_bounds : nat_lt most_held (held (with_item world item)) ≡ false = le-ltb _ _ few in
    let few_triples : nat_lt most_triples (length graph) ≡ false = le-ltb _ _ small in
    let in_time : nat_lt time (next_of world) ≡ false = le-ltb _ _ (rw stands.next at late) in
    let late_world : next_of world ≤ time = rw stands.next at late in
    let bounds = item_keeps world stands.bounds item late_world few in
    let to = next_after old time in
    let next : to ≡ next_with world time = sym (after_is old world time stands) in
    let same : record world { next = Some to; items = world.items ++ item ∷ [] } ≡ with_item world item =
    ap (λ n. record world { next = Some n; items = world.items ++ item ∷ [] }) next in
    let there = passed old new (item ∷ []) (came_over old stream) to world passes stands (low_of old.next to (after_low old time))
    (high_of old.next to) (subst IsWorld (sym same) bounds) in
    let moments_are = arrivals_are old world item stands late in (
      with_item world item,
      rw (in_time, few_triples, in_bounds) refl,
      subst (Stands new (with_item world item)) (ap (λ ms. option_map_or (λ from. moments_from (with_item world item) from) world.next [] ++ ms) moments_are)
          (subst (λ w. Stands new w (option_map_or (λ from. moments_from w from) world.next [] ++ arrivals w (came_over old stream) to)) same there),
    )

-- or memory is refused
pub item_offers : (old new : State) (stream : List ℕ) (time : ℕ) (graph : List Triple) (end : Option ℕ) (result : Result (Unit {0}) Refused) → old.broken ≡ false → old.first ≡ None → length graph ≤ most_triples → next_in old ≤ time
    → EndsAt (watches_in old) (record { number = old.kept.accepted; item = record { stream = stream; time = time; graph = graph } }) end
    → option_map_or (λ _. excess old.kept (next_after old time) (length graph)) end None ≡ None
    → OnOk result (Passes old (record { stream = stream; time = time; graph = graph } ∷ []) (came_over old stream) (next_after old time) new) → IfErr result (λ why. (why ≡ answer.OutOfMemory) × (new.broken ≡ true))
    → Offers old (Item stream time graph) result new
item_offers old new stream time graph end (Ok done) ready idle small late ends none went failed = record {
  was_ready = ready;
  ready = went.broken;
  stands = λ world stands. item_leads old new stream time graph end world idle small late ends none went stands;
}
item_offers old new stream time graph end (Err why) ready idle small late ends none went failed =
    rw failed.0
    (record {
      was_ready = ready;
      broken = failed.1;
      may_take = λ world stands.
          let item : Accepted = record { stream = stream; time = time; graph = graph } in
          let few = in_bounds old world item idle stands late end ends none in
          let fits : nat_lt most_held (held (with_item world item)) ≡ false = le-ltb _ _ few in
          let few_triples : nat_lt most_triples (length graph) ≡ false = le-ltb _ _ small in
          let in_time : nat_lt time (next_of world) ≡ false = le-ltb _ _ (rw stands.next at late) in
          rw (in_time, few_triples, fits) refl;
    })

-- an item whose triples are too many
pub large_refuses : (old : State) (stream : List ℕ) (time : ℕ) (graph : List Triple) → old.broken ≡ false → next_in old ≤ time → most_triples < length graph
    → Refuses old (Item stream time graph) (answer.ItemTooLarge (length graph)) old
large_refuses old stream time graph ready late many = record {
  was_ready = ready;
  unchanged = refl;
  refused = λ world stands.
      let in_time : nat_lt time (next_of world) ≡ false = le-ltb _ _ (rw stands.next at late) in
      let over : nat_lt most_triples (length graph) ≡ true = lt-ltb _ _ many in
      rw (in_time, over) refl;
}

-- or with which too many would be kept
pub full_held_refuses : (old : State) (stream : List ℕ) (time : ℕ) (graph : List Triple) (end : Option ℕ) (many : ℕ) → old.broken ≡ false → old.first ≡ None → length graph ≤ most_triples → next_in old ≤ time
    → EndsAt (watches_in old) (record { number = old.kept.accepted; item = record { stream = stream; time = time; graph = graph } }) end
    → option_map_or (λ _. excess old.kept (next_after old time) (length graph)) end None ≡ Some many
    → Refuses old (Item stream time graph) (answer.HeldFull many) old
full_held_refuses old stream time graph end many ready idle small late ends is = record {
  was_ready = ready;
  unchanged = refl;
  refused = λ world stands.
      let item : Accepted = record { stream = stream; time = time; graph = graph } in
      let over = out_of_bounds old world item idle stands late end many ends small is in
      let few_triples : nat_lt most_triples (length graph) ≡ false = le-ltb _ _ small in
      let in_time : nat_lt time (next_of world) ≡ false = le-ltb _ _ (rw stands.next at late) in
      rw (in_time, few_triples, over.0, over.1) refl;
}

-- ---- registrations and cancellations: no moment

-- from the first instant that isn't complete on no moment is left
none_behind : (world : World) (next : Option ℕ) → option_map_or (λ from. option_map_or (λ to. flat_map (due_moments world) (range_with_len from (to - from))) next []) next [] ≡ []
none_behind world None = refl
none_behind world (Some next) = let none : next - next ≡ 0 = omega arith in rw none refl

-- an engine that is idle, with other queries, stands for the world with these
other_queries : (old new : State) (world after : World) (queries : List Query) → old.first ≡ None → Stands old world [] → after ≡ record world { queries = queries }
    → new.slack ≡ old.slack → new.next ≡ old.next → new.stored ≡ old.stored → new.first ≡ old.first → new.broken ≡ old.broken
    → registrations_in new ≡ map (λ (query : Query). query.registration) queries → HaveSeen new.queries queries → Fits new world.items → IsWorld after
    → Stands new after (option_map_or (λ from. moments_from after from) world.next [] ++ [])
other_queries old new world after queries idle stands is slack next stored first broken regs seen fits bounds =
    let none : option_map_or (λ from. moments_from (record world { queries = queries }) from) world.next [] ++ [] ≡ [] =
    append-nil _ ∙ none_behind (record world { queries = queries }) world.next in
    let idle_new : new.first ≡ None = first ∙ idle in
    let bounds_here : IsWorld (record world { queries = queries }) = subst IsWorld is bounds in
    rw (is, none)
    (record {
      ready = broken ∙ stands.ready;
      slack = slack ∙ stands.slack;
      next = next ∙ stands.next;
      fits = fits;
      bounds = bounds_here;
      stored = subst (λ fs. IsSameMultiset fact_eq fs world.stored) (sym stored) stands.stored;
      queries = regs;
      seen = seen;
      moments = rw idle_new refl;
      head = rw idle_new (λ place some. cc);
      none = (λ _. refl, λ _. idle_new);
    })

-- ---- a query that becomes live

-- its windows see none of the items
all_later : (first k : ℕ) (windows : List StreamWindow) (n : ℕ) → n ≤ first → All (λ (watch : Watch). n ≤ watch.first) (watches_from first k windows)
all_later first k [] n low = λ i d below. absurd (omega (arith, below))
all_later first k (w ∷ ws) n low =
    All-cons (λ (watch : Watch). n ≤ watch.first) (record { shape = w.shape; spot = k; stream = w.stream; first = first }) (watches_from first (k + 1) ws) low (all_later first (k + 1) ws n low)

-- windows that haven't moved saw nothing
none_followed : (items : List Accepted) (contents : List Followed) → All IsUnmoved contents → facts_followed items contents ≡ []
none_followed items [] all = refl
none_followed items (seen ∷ contents) all =
    let first = all 0 seen (omega arith) in
    rw (first.at, none_followed items contents (λ k d below. all (suc k) d (omega (arith, below)))) refl

pub new_follows : (items : List Accepted) (stored : List Fact) (log : Log) (live : Live) → live.reported ≡ false → live.seen ≡ [] → All IsUnmoved live.contents → Follows items stored log live
new_follows items stored log live unreported unseen unmoved = record {
  contents = All-weaker IsUnmoved (λ (seen : Followed). HasSeen seen (take seen.accepted items))
      (λ (seen : Followed) (new : IsUnmoved seen). let none : seen.accepted ≡ 0 = new.seen.accepted in subst (λ n. HasSeen seen (take n items)) (sym none) new.seen) live.contents unmoved;
  seen = λ q is. rw (unreported, unseen, none_followed items live.contents unmoved) (omega (arith, ints));
  unread = λ q is. rw unseen refl;
}

module _ (old new : State) (live : Live) (items : List Accepted) (same : new ≡ record old { queries = old.queries ++ live ∷ [] }) (fits : Fits old items)
    (first : live.first ≡ old.kept.accepted) (told : (from : ℕ) → Tells items from (registration_of live) live.watched)
    (unreported : live.reported ≡ false) (unseen : live.seen ≡ []) (unmoved : All IsUnmoved live.contents) where
  watches_more : watches_in (record old { queries = old.queries ++ live ∷ [] }) ≡ watches_in old ++ watches live.first live.windows
  watches_more = ap watches_of (map_push registration_of old.queries live) ∙ watches_push (registrations_in old) (registration_of live)

  pub kept_more : IsKept (cut_of old) (watches_in old ++ watches live.first live.windows) items old.kept
  kept_more = begun (cut_of old) (watches_in old) (watches live.first live.windows) items old.kept fits.kept
      (all_later live.first 0 live.windows (length items) (let many = fits.kept.accepted in omega (arith, first, many)))

  pub fits_more : Fits new items
  fits_more = rw same
      (record {
        kept = subst (λ ws. IsKept (cut_of old) ws items old.kept) (sym watches_more) kept_more;
        told = All-append (λ (l : Live). Tells items (cut_of old) (registration_of l) l.watched) old.queries (live ∷ []) fits.told
            (All-cons (λ (l : Live). Tells items (cut_of old) (registration_of l) l.watched) live [] (told (cut_of old)) (λ k d below. absurd (omega (arith, below))));
        follows = All-append (Follows items old.stored old.log) old.queries (live ∷ []) fits.follows
            (All-cons (Follows items old.stored old.log) live [] (new_follows items old.stored old.log live unreported unseen unmoved) (λ k d below. absurd (omega (arith, below))));
      })

pub fits_begun : (old : State) (live : Live) (items : List Accepted) → Begins old live → Fits old items → Fits (record old { queries = old.queries ++ live ∷ [] }) items
fits_begun old live items begins fits =
    fits_more old (record old { queries = old.queries ++ live ∷ [] }) live items refl fits begins.first
    (λ from. begins.told items from (sym fits.kept.accepted ∙ sym begins.first)) begins.unreported begins.unseen begins.unmoved

-- in the world as in the engine
slack_same : (old : State) (world : World) (reading : Reading) → Stands old world []
    → has_slack_tuple world reading ≡ is_refused_slack old reading.policy
slack_same old world reading stands = ap (λ n. nat_lt 0 n && reading.policy.tuple) (sym stands.slack)

-- a query that became live
pub register_leads : (old : State) (name text : List ℕ) (q : Registered) (live : Live) (world : World) → registration_of live ≡ (new_query name (reading_of q) old.kept.accepted).registration → Begins old live
    → old.first ≡ None → list_any (has_name name) (registrations_in old) ≡ false → parse text ≡ Ok q → first_fault q ≡ None → is_mixed q.policy ≡ false → is_refused_slack old (reading_of q).policy ≡ false
    → length old.queries < most_queries → starts_overfull (reading_of q) ≡ false → Stands old world []
    → Leads world (Register name text) (record old { queries = old.queries ++ live ∷ [] })
register_leads old name text q live world made begins idle free is good unmixed instants few starts stands =
    let new : Query = new_query name (reading_of q) (length world.items) in
    let after : World = record world { queries = world.queries ++ new ∷ [] } in
    let engine : State = record old { queries = old.queries ++ live ∷ [] } in
    let none_live : is_live world name ≡ false = same_live old world name stands.queries ∙ free in
    let count : length world.queries ≡ length old.queries = same_count old world stands.queries in
    let room : nat_le most_queries (length world.queries) ≡ false = lt-leb _ _ (rw (← count) at few) in
    let made_is : registration_of live ≡ new.registration = made ∙ ap (λ n. (new_query name (reading_of q) n).registration) stands.fits.kept.accepted in
    let regs : registrations_in engine ≡ map (λ (query : Query). query.registration) (world.queries ++ new ∷ []) =
    map_push registration_of old.queries live ∙ (ap (λ qs. qs ++ registration_of live ∷ []) stands.queries
    ∙ (ap (λ r. registrations world ++ r ∷ []) made_is ∙ sym (map_push (λ (query : Query). query.registration) world.queries new))) in
    let seen = seen_more old.queries world.queries live new stands.seen (saw_new live new.registration begins.unreported begins.unseen) in
    let fits = fits_begun old live world.items begins stands.fits in
    let by_instants : has_slack_tuple world (reading_of q) ≡ false = slack_same old world (reading_of q) stands ∙ instants in
    let bounds : IsWorld after = register_keeps world stands.bounds name (reading_of q) none_live (subst (λ n. n < most_queries) (sym count) few) by_instants in (
      after,
      rw (none_live, is, good, unmixed, by_instants, room, starts) refl,
      other_queries old engine world after (world.queries ++ new ∷ []) idle stands refl refl refl refl refl refl regs seen fits bounds,
    )

-- the named query goes, and what it alone needed
pub cancel_leads : (old new : State) (name : List ℕ) (place : ℕ) (live : Live) (world : World) → old.first ≡ None → IsDistinct bytes_eq (map (λ (l : Live). l.name) old.queries)
    → slice_get old.queries place ≡ Some live → live.name ≡ name → Stands old world []
    → new.slack ≡ old.slack → new.next ≡ old.next → new.stored ≡ old.stored → new.first ≡ old.first → new.broken ≡ old.broken → new.queries ≡ remove old.queries place
    → Fits new world.items → Leads world (Cancel name) new
cancel_leads old new name place live world idle names listed is stands slack next stored first broken queries fits =
    let after : World = record world { queries = without name world.queries } in
    let is_named : is_live world name ≡ true = same_live old world name stands.queries ∙ any_named old.queries place live name listed is in
    let found = world_at old world stands.queries place live listed in
    let called : name_of_query found.0 ≡ name = ap (λ (r : Registration). r.name) found.2 ∙ is in
    let gone : without name world.queries ≡ remove world.queries place =
    subst (λ n. without n world.queries ≡ remove world.queries place) called (remove_named world.queries name_of_query place found.0 (world_names old world stands.queries names) found.1) in
    let regs : registrations_in new ≡ map (λ (query : Query). query.registration) (without name world.queries) =
    ap (map registration_of) queries ∙ (remove_map registration_of old.queries place ∙ (ap (λ qs. remove qs place) stands.queries ∙ (sym (remove_map (λ (query : Query). query.registration) world.queries place) ∙ ap (map (λ (query : Query). query.registration)) (sym gone)))) in
    let seen : HaveSeen new.queries (without name world.queries) = subst (λ ls. HaveSeen ls (without name world.queries)) (sym queries)
    (subst (λ qs. HaveSeen (remove old.queries place) qs) (sym gone) (seen_removed old.queries world.queries place stands.seen)) in
    let bounds : IsWorld after = without_keeps world stands.bounds name in (
      after,
      rw is_named refl,
      other_queries old new world after (without name world.queries) idle stands refl slack next stored first broken regs seen fits bounds,
    )

-- ---- stored quads: no moment

-- what came and went is logged for a query that has reported
abbrev pub IsLoggedFor : List Fact → Log → List Fact → Log → Live → Type 0
IsLoggedFor stored log stored_now log_now live = live.reported ≡ true
    → (q : Fact) → since log_now live.place q +ℤ times fact_eq stored q ≡ since log live.place q +ℤ times fact_eq stored_now q

-- so it leads on from what the query has seen
follows_logged : (items : List Accepted) (stored stored_now : List Fact) (log log_now : Log) (live : Live)
    → IsLoggedFor stored log stored_now log_now live → Follows items stored log live → Follows items stored_now log_now live
follows_logged items stored stored_now log log_now live logged follows = record {
  contents = follows.contents;
  seen = λ q is. by live.reported q logged (follows.seen q is);
  unread = follows.unread;
}
  where
    by : (b : Bool) (q : Fact) → (b ≡ true → (q : Fact) → since log_now live.place q +ℤ times fact_eq stored q ≡ since log live.place q +ℤ times fact_eq stored_now q)
        → times fact_eq live.seen q +ℤ (if b then since log live.place q else times fact_eq stored q) ≡ times fact_eq stored q +ℤ times fact_eq (facts_followed items live.contents) q
        → times fact_eq live.seen q +ℤ (if b then since log_now live.place q else times fact_eq stored_now q) ≡ times fact_eq stored_now q +ℤ times fact_eq (facts_followed items live.contents) q
    by true q logged before = let change = logged refl q in omega (arith, ints, change, before)
    by false q logged before = omega (arith, ints, before)

pub fits_logged : (old : State) (stored : List Fact) (log : Log) (items : List Accepted) → All (IsLoggedFor old.stored old.log stored log) old.queries → Fits old items
    → Fits (record old { stored = stored; log = log }) items
fits_logged old stored log items logged fits = record {
  kept = fits.kept;
  told = fits.told;
  follows = λ k d below. follows_logged items old.stored stored old.log log (slice_index_or old.queries k d) (logged k d below) (fits.follows k d below);
}

-- an engine that is idle, with other quads, stands for the world with these
other_quads : (old : State) (stored wanted : List Fact) (log : Log) (world : World) → old.first ≡ None → IsSameMultiset fact_eq stored wanted
    → All (IsLoggedFor old.stored old.log stored log) old.queries → Stands old world [] → IsWorld (record world { stored = wanted })
    → Stands (record old { stored = stored; log = log }) (record world { stored = wanted }) (option_map_or (λ from. moments_from (record world { stored = wanted }) from) world.next [] ++ [])
other_quads old stored wanted log world idle same logged stands bounds =
    let none : option_map_or (λ from. moments_from (record world { stored = wanted }) from) world.next [] ++ [] ≡ [] =
    append-nil _ ∙ none_behind (record world { stored = wanted }) world.next in
    rw none
    (record {
      ready = stands.ready;
      slack = stands.slack;
      next = stands.next;
      fits = fits_logged old stored log world.items logged stands.fits;
      bounds = bounds;
      stored = same;
      queries = stands.queries;
      seen = stands.seen;
      moments = rw idle refl;
      head = rw idle (λ place some. cc);
      none = (λ _. refl, λ _. idle);
    })

-- the quads that weren't stored are stored
pub insert_leads : (old : State) (quads : List Quad) (log : Log) (world : World) → old.first ≡ None → length (stored_with old.stored quads) ≤ most_quads
    → All (IsLoggedFor old.stored old.log (stored_with old.stored quads) log) old.queries → Stands old world []
    → Leads world (Insert quads) (record old { stored = stored_with old.stored quads; log = log })
insert_leads old quads log world idle few logged stands =
    let after : World = record world { stored = stored_with world.stored quads } in
    let many : length (stored_with old.stored quads) ≡ length (stored_with world.stored quads) = as-many-stored_with old.stored world.stored quads stands.stored in
    let within : nat_lt most_quads (length (stored_with world.stored quads)) ≡ false = le-ltb _ _ (rw many at few) in (
      after,
      rw within refl,
      other_quads old (stored_with old.stored quads) (stored_with world.stored quads) log world idle (same-stored_with old.stored world.stored quads stands.stored) logged stands
          (stored_keeps world stands.bounds (stored_with world.stored quads) (subst (λ n. n ≤ most_quads) many few)),
    )

-- quads that fit are accepted
pub insert_fits : (old : State) (quads : List Quad) (world : World) → length (stored_with old.stored quads) ≤ most_quads → Stands old world []
    → IsOk (accept world (Insert quads))
insert_fits old quads world few stands =
    let many : length (stored_with old.stored quads) ≡ length (stored_with world.stored quads) = as-many-stored_with old.stored world.stored quads stands.stored in
    let within : nat_lt most_quads (length (stored_with world.stored quads)) ≡ false = le-ltb _ _ (rw many at few) in
    rw within refl

-- the named quads are no longer stored
pub delete_leads : (old : State) (quads : List Quad) (stored : List Fact) (log : Log) (world : World) → old.first ≡ None → IsSameMultiset fact_eq stored (stored_without old.stored quads)
    → All (IsLoggedFor old.stored old.log stored log) old.queries → Stands old world []
    → Leads world (Delete quads) (record old { stored = stored; log = log })
delete_leads old quads stored log world idle same logged stands = (
  record world { stored = stored_without world.stored quads },
  refl,
  other_quads old stored (stored_without world.stored quads) log world idle (λ q. same q ∙ same-stored_without old.stored world.stored quads stands.stored q) logged stands
      (delete_keeps world stands.bounds quads),
)

-- more would be stored than can be
pub full_store_refuses : (old : State) (quads : List Quad) (many : ℕ) → old.broken ≡ false → IsStoredFault (length (stored_with old.stored quads)) (StoreFull many) → Refuses old (Insert quads) (answer.StoreFull many) old
full_store_refuses old quads many ready fault = record {
  was_ready = ready;
  unchanged = refl;
  refused = λ world stands.
      let so_many : many ≡ length (stored_with world.stored quads) = fault.0 ∙ as-many-stored_with old.stored world.stored quads stands.stored in
      let over : nat_lt most_quads (length (stored_with world.stored quads)) ≡ true = lt-ltb most_quads (length (stored_with world.stored quads)) (subst (λ n. most_quads < n) (as-many-stored_with old.stored world.stored quads stands.stored) fault.1) in
      rw (over, so_many) refl;
}

-- ---- refusals

-- the name is looked up first
pub taken_refuses : (old : State) (name text : List ℕ) (place : ℕ) (live : Live) → old.broken ≡ false → slice_get old.queries place ≡ Some live → live.name ≡ name → Refuses old (Register name text) answer.NameTaken old
taken_refuses old name text place live ready listed is =
    record { was_ready = ready; unchanged = refl; refused = λ world stands. let there : is_live world name ≡ true = same_live old world name stands.queries ∙ any_named old.queries place live name listed is in rw there refl }

pub no_query_refuses : (old : State) (name : List ℕ) → old.broken ≡ false → list_any (has_name name) (registrations_in old) ≡ false → Refuses old (Cancel name) answer.NoQuery old
no_query_refuses old name ready none =
    record { was_ready = ready; unchanged = refl; refused = λ world stands. let live : is_live world name ≡ false = same_live old world name stands.queries ∙ none in rw live refl }

-- want of memory
pub breaks : (old : State) (name text : List ℕ) (why : Refused) (new : State) → old.broken ≡ false → list_any (has_name name) (registrations_in old) ≡ false → why ≡ answer.OutOfMemory → new.broken ≡ true → Refuses old (Register name text) why new
breaks old name text why new ready free is broken =
    rw is (record { was_ready = ready; broken = broken; may_take = λ world stands. same_live old world name stands.queries ∙ free })

-- a text with a fault is refused for it
fault_of : {A E : Type 0} (r : Result A E) (why : E) → result_err r ≡ Some why → r ≡ Err why
fault_of (Ok a) why is = cc
fault_of (Err e) why is = cc

pub faulty_refuses : (old : State) (name text : List ℕ) (why : TextFault) → old.broken ≡ false → list_any (has_name name) (registrations_in old) ≡ false → text_fault text ≡ Some why → Refuses old (Register name text) (answer.Text why) old
faulty_refuses old name text why ready free is = record {
  was_ready = ready;
  unchanged = refl;
  refused = λ world stands.
      let live : is_live world name ≡ false = same_live old world name stands.queries ∙ free in
      let fault : read text ≡ Err why = fault_of (read text) why is in
      rw (live, fault) refl;
}

module _ (old : State) (name text : List ℕ) (q : Registered) (ready : old.broken ≡ false) (free : list_any (has_name name) (registrations_in old) ≡ false) (is : parse text ≡ Ok q) (good : first_fault q ≡ None) where
  none_live : (world : World) → Stands old world [] → is_live world name ≡ false
  none_live world stands = same_live old world name stands.queries ∙ free

  module _ (unmixed : is_mixed q.policy ≡ false) where
    count : (world : World) → Stands old world [] → length world.queries ≡ length old.queries
    count world stands = same_count old world stands.queries

    -- a query that looks at items, under a slack
    pub slack_refuses : is_refused_slack old (reading_of q).policy ≡ true → Refuses old (Register name text) answer.SlackTuple old
    slack_refuses refused = record {
      was_ready = ready;
      unchanged = refl;
      refused = λ world stands.
          let under : has_slack_tuple world (reading_of q) ≡ true = slack_same old world (reading_of q) stands ∙ refused in
          rw (none_live world stands, is, good, unmixed, under) refl;
    }

    pub full_refuses : is_refused_slack old (reading_of q).policy ≡ false → most_queries ≤ length old.queries → Refuses old (Register name text) answer.QueriesFull old
    full_refuses instants many = record {
      was_ready = ready;
      unchanged = refl;
      refused = λ world stands.
          let full : nat_le most_queries (length world.queries) ≡ true = rw (count world stands) (le-leb _ _ many) in
          let under : has_slack_tuple world (reading_of q) ≡ false = slack_same old world (reading_of q) stands ∙ instants in
          rw (none_live world stands, is, good, unmixed, under, full) refl;
    }

    pub overfull_refuses : is_refused_slack old (reading_of q).policy ≡ false → length old.queries < most_queries → starts_overfull (reading_of q) ≡ true → Refuses old (Register name text) answer.StartOverfull old
    overfull_refuses instants few starts = record {
      was_ready = ready;
      unchanged = refl;
      refused = λ world stands.
          let room : nat_le most_queries (length world.queries) ≡ false = rw (count world stands) (lt-leb _ _ few) in
          let under : has_slack_tuple world (reading_of q) ≡ false = slack_same old world (reading_of q) stands ∙ instants in
          rw (none_live world stands, is, good, unmixed, under, room, starts) refl;
    }

-- a query that has begun becomes live, or memory is refused
pub begun_offers : (old new : State) (name text : List ℕ) (q : Registered) (kept : Live) (result : Result (Unit {0}) Refused) → old.broken ≡ false → registration_of kept ≡ (new_query name (reading_of q) old.kept.accepted).registration → Begins old kept → old.first ≡ None
    → list_any (has_name name) (registrations_in old) ≡ false → parse text ≡ Ok q → first_fault q ≡ None → is_mixed q.policy ≡ false
    → is_refused_slack old (reading_of q).policy ≡ false → length old.queries < most_queries → starts_overfull (reading_of q) ≡ false
    → OnOk result (new ≡ record old { queries = old.queries ++ kept ∷ [] }) → IfErr result (λ why. (why ≡ answer.OutOfMemory) × (new.broken ≡ true)) → Offers old (Register name text) result new
begun_offers old new name text q kept (Ok done) ready made begins idle free is good unmixed instants few starts went failed =
    let became : new ≡ record old { queries = old.queries ++ kept ∷ [] } = went in
    rw became (record {
      was_ready = ready;
      ready = ready;
      stands = λ world stands. register_leads old name text q kept world made begins idle free is good unmixed instants few starts stands;
    })
begun_offers old new name text q kept (Err why) ready made begins idle free is good unmixed instants few starts went failed = breaks old name text why new ready free failed.0 failed.1

-- ---- an engine that has taken nothing

pub fits_nothing : (e : State) → e.next ≡ None → e.queries ≡ [] → e.kept ≡ record { accepted = 0; items = [] } → Fits e []
fits_nothing e next queries kept = record {
  kept = rw kept (none_kept (cut_of e) (watches_in e));
  told = rw queries (λ k d below. absurd (omega (arith, below)));
  follows = rw queries (λ k d below. absurd (omega (arith, below)));
}

pub new_stands : (e : State) (slack : ℕ) → e.slack ≡ slack → e.next ≡ None → e.queries ≡ [] → e.kept ≡ record { accepted = 0; items = [] } → e.stored ≡ [] → e.first ≡ None → e.broken ≡ false → Stands e (empty_world slack) []
new_stands e slack same next queries kept stored first sound = record {
  ready = sound;
  slack = same;
  next = next;
  fits = fits_nothing e next queries kept;
  bounds = empty_keeps slack;
  stored = rw stored (λ q. refl);
  queries = rw queries refl;
  seen = rw queries tt;
  moments = rw first refl;
  head = rw first (λ place some. cc);
  none = (λ _. refl, λ _. first);
}
