-- What is accepted, and what is reported, leaves a world within its bounds.
use Rattle.std.proofs.Common.{◌≡◌, ℕ, zero, suc, ◌+◌, ◌-◌, ◌<◌, ◌≤◌, Bool, true, false, true≢false, cond, not, ◌&&◌, ◌||◌, List, [], ◌∷◌, ◌++◌, length, map, filter, Option, None, Some, Result, Ok, Err, refl, sym, ◌∙◌, ap, subst, arith, nat_lt, nat_le, bytes_eq}
use Rattle.std.proofs.lemmas.Bool.{le-ltb, lt-leb, lt-ltb, ltb-false}
use Rattle.std.proofs.lemmas.Bool.Decides.{nat_tests}
use Rattle.std.proofs.lemmas.Grind.{flat_map-append}
use Rattle.std.proofs.lemmas.List.{append-nil, length_push, length-map, map_push}
use Rattle.std.proofs.lemmas.Simd.{map-map}
use Rattle.std.proofs.lemmas.List.Elements.{All-append, All-cons, All-filter, All-map, All-weaker}
use Rattle.std.proofs.lemmas.List.Folds.{list_any-append}
use Rattle.std.proofs.lemmas.List.Sorted.{IsNonDecreasingBy-push}
use Rattle.std.proofs.lemmas.List.Sums.{sum_by-cons}
use Rattle.std.specs.Prelude.{if◌then◌else◌}
use Rattle.std.specs.List.{All, AllByRecursion, IsDistinct, list_any, sum_by}
use Rattle.std.specs.Option.{option_map_or}
use Rattle.rsp_terms.specs.declared.statement.Fact.{Fact}
use Rattle.rsp_terms.specs.declared.statement.Quad.{Quad}
use Rattle.rsp_terms.specs.declared.statement.Triple.{Triple}
use Rattle.rsp_scope.specs.Contents.{Accepted, Numbered, Watch, numbered}
use Rattle.rsp_scope.specs.Needed.{is_needed, is_needed_by, listed_triples, needed_items}
use Rattle.rsp_scope.specs.Quads.{names, stored_with, stored_without}
use Rattle.rsp_scope.proofs.Needs.{needed-earlier}
use Rattle.rsp_events.specs.declared.event.Event.{Event}
use Rattle.rsp_events.specs.declared.event.Event.TheVariants.{Cancel, Delete, Insert, Item, Register, Tick}
use Rattle.rsp_query.specs.Queries.{Registered}
use Rattle.rsp_syntax.specs.Deciding.{parse}
use Rattle.rsp_syntax.specs.declared.fault.SyntaxFault.{SyntaxFault}
use Rattle.rsp_engine.specs.declared.live_query.StreamWindow.{StreamWindow}
use Rattle.rsp_engine.specs.declared.refused.Refused.TheVariants.{HeldFull, ItemTooLarge, Late, NameTaken, NoQuery, QueriesFull, SlackTuple, StartOverfull, StoreFull}
use Rattle.rsp_engine.specs.declared.refused.TextFault.{TextFault}
use Rattle.rsp_engine.specs.Refusals.{read}
use Rattle.rsp_engine.specs.World.{Query, Reading, Registration, World, empty_world, next_of, next_with, registrations}
use Rattle.rsp_engine.specs.Readings.{reading_of}
use Rattle.rsp_spec.specs.Limits.{most_held, most_quads, most_queries, most_triples}
use Rattle.rsp_engine.specs.Accept.{accept, accept_item, accept_stored, accept_text, has_name, has_slack_tuple, is_live, new_query, starts_overfull, with_item, without}
use Rattle.rsp_engine.specs.Bounds.{IsWorld}
use Rattle.rsp_engine.specs.Contents.{watches, watches_from}
use Rattle.rsp_engine.specs.Kept.{held, watches_of}
use Rattle.rsp_engine.specs.Reports.{after_report, is_overfull, query_after_report, reported_at}
use Rattle.rsp_engine.proofs.Named.{distinct_more, turned, unmapped}

-- ---- what is kept

-- no more passes the one test than the other
sum_fewer : {X : Type 0} (f : X → ℕ) (p q : X → Bool) → ((x : X) → p x ≡ true → q x ≡ true) → (xs : List X)
    → sum_by f (filter p xs) ≤ sum_by f (filter q xs)
sum_fewer f p q implies [] = omega arith
sum_fewer f p q implies (x ∷ xs) = by (p x) (q x) (implies x) (sum_fewer f p q implies xs)
  where
    by : (a b : Bool) → (a ≡ true → b ≡ true) → sum_by f (filter p xs) ≤ sum_by f (filter q xs)
        → sum_by f (cond a (x ∷ filter p xs) (filter p xs)) ≤ sum_by f (cond b (x ∷ filter q xs) (filter q xs))
    by true true h rest =
        let one = sum_by-cons f x (filter p xs) in
        let two = sum_by-cons f x (filter q xs) in
        omega (arith, one, two, rest)
    by true false h rest = absurd (true≢false (sym (h refl)))
    by false true h rest = let two = sum_by-cons f x (filter q xs) in omega (arith, two, rest)
    by false false h rest = rest

-- windows that need fewer items hold no more
pub held_fewer : (one other : ℕ) (fewer ws : List Watch) (items : List Accepted)
    → ((entry : Numbered) → is_needed one fewer entry ≡ true → is_needed other ws entry ≡ true)
    → listed_triples (needed_items one fewer items) ≤ listed_triples (needed_items other ws items)
held_fewer one other fewer ws items implies =
    sum_fewer (λ (entry : Numbered). length entry.item.graph) (is_needed one fewer) (is_needed other ws) implies (numbered 0 items)

-- among the items with numbers below the top two tests are one
same_below : (p q : Numbered → Bool) (top : ℕ) → ((entry : Numbered) → entry.number < top → p entry ≡ q entry) → (n : ℕ)
    → (items : List Accepted) → n + length items ≤ top → filter p (numbered n items) ≡ filter q (numbered n items)
same_below p q top same n [] within = refl
same_below p q top same n (item ∷ items) within =
    let first : p (record { number = n; item = item }) ≡ q (record { number = n; item = item })
    = same (record { number = n; item = item }) (omega (arith, within)) in
    let rest : filter p (numbered (n + 1) items) ≡ filter q (numbered (n + 1) items)
    = same_below p q top same (n + 1) items (omega (arith, within)) in
    λ i. cond (first i) (record { number = n; item = item } ∷ rest i) (rest i)

-- windows that see the items from a number on need none of those before
none_needed : (n first k : ℕ) (windows : List StreamWindow) (entry : Numbered) → entry.number < first
    → is_needed n (watches_from first k windows) entry ≡ false
none_needed n first k [] entry before = refl
none_needed n first k (w ∷ ws) entry before =
    let unseen : nat_le first entry.number ≡ false = lt-leb _ _ before in
    rw unseen (none_needed n first (k + 1) ws entry before)

or_false : (b : Bool) → (b || false) ≡ b
or_false true = refl
or_false false = refl

pub watches_push : (queries : List Registration) (query : Registration)
    → watches_of (queries ++ query ∷ []) ≡ watches_of queries ++ watches query.first query.reading.windows
watches_push queries query =
    flat_map-append (λ (q : Registration). watches q.first q.reading.windows) queries (query ∷ [])
    ∙ ap (λ ws. watches_of queries ++ ws) (append-nil (watches query.first query.reading.windows))

-- a query that becomes live needs no item that was accepted before
held_begun : (world : World) (name : List ℕ) (reading : Reading)
    → held (record world { queries = world.queries ++ new_query name reading (length world.items) ∷ [] }) ≡ held world
held_begun world name reading =
    let new : Query = new_query name reading (length world.items) in
    let regs : map (λ (q : Query). q.registration) (world.queries ++ new ∷ []) ≡ registrations world ++ new.registration ∷ []
    = map_push (λ (q : Query). q.registration) world.queries new in
    let ws : watches_of (map (λ (q : Query). q.registration) (world.queries ++ new ∷ []))
    ≡ watches_of (registrations world) ++ watches (length world.items) reading.windows
    = ap watches_of regs ∙ watches_push (registrations world) new.registration in
    let same : needed_items (next_of world) (watches_of (registrations world) ++ watches (length world.items) reading.windows) world.items
    ≡ needed_items (next_of world) (watches_of (registrations world)) world.items
    = same_below _ _ (length world.items) alike 0 world.items (omega arith) in
    ap (λ vs. listed_triples (needed_items (next_of world) vs world.items)) ws ∙ ap listed_triples same
  where
    alike : (entry : Numbered) → entry.number < length world.items
        → is_needed (next_of world) (watches_of (registrations world) ++ watches (length world.items) reading.windows) entry
        ≡ is_needed (next_of world) (watches_of (registrations world)) entry
    alike entry before =
        list_any-append (is_needed_by (next_of world) entry) (watches_of (registrations world)) (watches (length world.items) reading.windows)
        ∙ (ap (λ b. is_needed (next_of world) (watches_of (registrations world)) entry || b)
        (none_needed (next_of world) (length world.items) 0 reading.windows entry before)
        ∙ or_false (is_needed (next_of world) (watches_of (registrations world)) entry))

either_less : (a b c : Bool) → (b ≡ true → c ≡ true) → (a || b) ≡ true → (a || c) ≡ true
either_less true b c h is = refl
either_less false b c h is = h is

or_second : (a b : Bool) → b ≡ true → (a || b) ≡ true
or_second true b h = refl
or_second false b h = h

-- without a name no more is needed
less_without : (name : List ℕ) (queries : List Query) (n : ℕ) (entry : Numbered)
    → is_needed n (watches_of (map (λ (q : Query). q.registration) (without name queries))) entry ≡ true
    → is_needed n (watches_of (map (λ (q : Query). q.registration) queries)) entry ≡ true
less_without name [] n entry needed = needed
less_without name (query ∷ queries) n entry needed =
    list_any-append (is_needed_by n entry) mine (watches_of (map (λ (q : Query). q.registration) queries))
    ∙ by (not (has_name name query.registration)) (less_without name queries n entry) needed
  where
    mine : List Watch
    mine = watches query.registration.first query.registration.reading.windows

    by : (b : Bool)
        → (is_needed n (watches_of (map (λ (q : Query). q.registration) (without name queries))) entry ≡ true
        → is_needed n (watches_of (map (λ (q : Query). q.registration) queries)) entry ≡ true)
        → is_needed n (watches_of (map (λ (q : Query). q.registration) (cond b (query ∷ without name queries) (without name queries)))) entry ≡ true
        → (is_needed n mine entry || is_needed n (watches_of (map (λ (q : Query). q.registration) queries)) entry) ≡ true
    by true less needed =
        either_less (is_needed n mine entry) (is_needed n (watches_of (map (λ (q : Query). q.registration) (without name queries))) entry) _
        less
        (sym (list_any-append (is_needed_by n entry) mine (watches_of (map (λ (q : Query). q.registration) (without name queries)))) ∙ needed)
    by false less needed = or_second (is_needed n mine entry) _ (less needed)

-- ---- names

abbrev name_of_query : Query → List ℕ
name_of_query query = query.registration.name

-- what passes differs still
others_pass : (test : List ℕ → Bool) (p : Query → Bool) (queries : List Query)
    → AllByRecursion (λ name. test name ≡ false) (map name_of_query queries)
    → AllByRecursion (λ name. test name ≡ false) (map name_of_query (filter p queries))
others_pass test p [] all = tt
others_pass test p (query ∷ queries) all = by (p query) (others_pass test p queries all.1)
  where
    by : (b : Bool) → AllByRecursion (λ name. test name ≡ false) (map name_of_query (filter p queries))
        → AllByRecursion (λ name. test name ≡ false) (map name_of_query (cond b (query ∷ filter p queries) (filter p queries)))
    by true rest = (all.0, rest)
    by false rest = rest

pub distinct_pass : (p : Query → Bool) (queries : List Query) → IsDistinct bytes_eq (map name_of_query queries)
    → IsDistinct bytes_eq (map name_of_query (filter p queries))
unfolding IsDistinct
distinct_pass p [] distinct = tt
distinct_pass p (query ∷ queries) distinct =
    elim (p query) as (λ b. IsDistinct bytes_eq (map name_of_query (cond b (query ∷ filter p queries) (filter p queries)))) [
      | true ↦ (others_pass (bytes_eq (name_of_query query)) p queries distinct.0, distinct_pass p queries distinct.1)
      | false ↦ distinct_pass p queries distinct.1
    ]

fewer_pass : {X : Type 0} (p : X → Bool) (xs : List X) → length (filter p xs) ≤ length xs
fewer_pass p [] = omega arith
fewer_pass p (x ∷ xs) = by (p x) (fewer_pass p xs)
  where
    by : (b : Bool) → length (filter p xs) ≤ length xs → length (cond b (x ∷ filter p xs) (filter p xs)) ≤ suc (length xs)
    by true rest = omega (arith, rest)
    by false rest = omega (arith, rest)

any_named : (name : List ℕ) (queries : List Query)
    → list_any (has_name name) (map (λ (q : Query). q.registration) queries) ≡ list_any (λ q. bytes_eq (name_of_query q) name) queries
any_named name [] = refl
any_named name (query ∷ queries) = ap (λ b. bytes_eq (name_of_query query) name || b) (any_named name queries)

-- ---- event by event

module _ (world : World) (within : IsWorld world) where
  pub item_keeps : (item : Accepted) → next_of world ≤ item.time → held (with_item world item) ≤ most_held → IsWorld (with_item world item)
  item_keeps item behind few = record {
    names = within.names;
    live = within.live;
    quads = within.quads;
    few = few;
    timed = All-append (λ (i : Accepted). i.time ≤ next_with world item.time + world.slack) world.items (item ∷ [])
        (All-weaker (λ (i : Accepted). i.time ≤ next_of world + world.slack) (λ (i : Accepted). i.time ≤ next_with world item.time + world.slack)
        (λ i h. omega (arith, h)) world.items within.timed)
        (All-cons (λ (i : Accepted). i.time ≤ next_with world item.time + world.slack) item [] (omega arith)
        (λ k d below. absurd (omega (arith, below))));
    order = λ none. IsNonDecreasingBy-push (λ (i : Accepted). i.time) world.items item (within.order none)
        (λ d some. earlier none (length world.items - 1) d (omega (arith, some)));
    instants = within.instants;
  }
    where
      earlier : world.slack ≡ 0 → All (λ (i : Accepted). i.time ≤ item.time) world.items
      earlier none = All-weaker (λ (i : Accepted). i.time ≤ next_of world + world.slack) (λ (i : Accepted). i.time ≤ item.time)
          (λ i h. omega (arith, h, behind, none)) world.items within.timed

  pub tick_keeps : (time : ℕ) → next_of world ≤ time + 1 → IsWorld (record world { next = Some (time + 1) })
  tick_keeps time behind =
      let fewer = held_fewer (time + 1) (next_of world) (watches_of (registrations world)) (watches_of (registrations world)) world.items
      (λ entry. needed-earlier (next_of world) (time + 1) (watches_of (registrations world)) entry behind) in
      let before = within.few in
      record {
        names = within.names;
        live = within.live;
        quads = within.quads;
        few = omega (arith, fewer, before);
        timed = All-weaker (λ (i : Accepted). i.time ≤ next_of world + world.slack)
            (λ (i : Accepted). i.time ≤ time + 1 + world.slack) (λ i h. omega (arith, h, behind)) world.items within.timed;
        order = within.order;
        instants = within.instants;
      }

  pub register_keeps : (name : List ℕ) (reading : Reading) → is_live world name ≡ false → length world.queries < most_queries
      → has_slack_tuple world reading ≡ false → IsWorld (record world { queries = world.queries ++ new_query name reading (length world.items) ∷ [] })
  register_keeps name reading free room instants = record {
    names = distinct_more world.queries name_of_query name (new_query name reading (length world.items)) within.names
        (sym (any_named name world.queries) ∙ free) refl;
    live = let more = length_push world.queries (new_query name reading (length world.items)) in omega (arith, more, room);
    quads = within.quads;
    few = let same = held_begun world name reading in let before = within.few in omega (arith, same, before);
    timed = within.timed;
    order = within.order;
    instants = λ slack.
        All-append (λ (query : Query). query.registration.reading.policy.tuple ≡ false) world.queries
        (new_query name reading (length world.items) ∷ []) (within.instants slack)
        (All-cons (λ (query : Query). query.registration.reading.policy.tuple ≡ false) (new_query name reading (length world.items)) []
        (no_arrivals (nat_lt 0 world.slack) reading.policy.tuple (lt-ltb 0 world.slack slack) instants)
        (λ k d below. absurd (omega (arith, below))));
  }
    where
      no_arrivals : (a b : Bool) → a ≡ true → (a && b) ≡ false → b ≡ false
      no_arrivals true b is none = none
      no_arrivals false b is none = absurd (true≢false (sym is))

  pub without_keeps : (name : List ℕ) → IsWorld (record world { queries = without name world.queries })
  without_keeps name =
      let fewer = held_fewer (next_of world) (next_of world) (watches_of (map (λ (q : Query). q.registration) (without name world.queries)))
      (watches_of (registrations world)) world.items (less_without name world.queries (next_of world)) in
      let before = within.few in
      let count = fewer_pass (λ (query : Query). not (has_name name query.registration)) world.queries in
      let live_before = within.live in
      record {
        names = distinct_pass (λ (query : Query). not (has_name name query.registration)) world.queries within.names;
        live = omega (arith, count, live_before);
        quads = within.quads;
        few = omega (arith, fewer, before);
        timed = within.timed;
        order = within.order;
        instants = λ slack.
            All-filter (λ (query : Query). not (has_name name query.registration))
            (λ (query : Query). query.registration.reading.policy.tuple ≡ false) world.queries (within.instants slack);
      }

  pub stored_keeps : (stored : List Fact) → length stored ≤ most_quads → IsWorld (record world { stored = stored })
  stored_keeps stored few = record {
    names = within.names;
    live = within.live;
    quads = few;
    few = within.few;
    timed = within.timed;
    order = within.order;
    instants = within.instants;
  }

  pub delete_keeps : (quads : List Quad) → IsWorld (record world { stored = stored_without world.stored quads })
  delete_keeps quads =
      let fewer = fewer_pass (λ fact. not (names quads fact)) world.stored in
      let before = within.quads in
      stored_keeps (stored_without world.stored quads) (omega (arith, fewer, before))

  -- queries that registration fixed as before
  pub alike_keeps : (queries : List Query) → map (λ (q : Query). q.registration) queries ≡ registrations world
      → IsWorld (record world { queries = queries })
  alike_keeps queries same = record {
    names = subst (IsDistinct bytes_eq) (sym called) within.names;
    live = let before = within.live in omega (arith, count, before);
    quads = within.quads;
    few = subst (λ rs. listed_triples (needed_items (next_of world) (watches_of rs) world.items) ≤ most_held) (sym same) within.few;
    timed = within.timed;
    order = within.order;
    instants = λ slack.
        unmapped (λ (r : Registration). r.reading.policy.tuple ≡ false) (λ (q : Query). q.registration) queries
        (subst (All (λ (r : Registration). r.reading.policy.tuple ≡ false)) (sym same)
        (All-map (λ (r : Registration). r.reading.policy.tuple ≡ false) (λ (q : Query). q.registration) world.queries
        (within.instants slack)));
  }
    where
      called : map name_of_query queries ≡ map name_of_query world.queries
      called =
          sym (map-map (λ (r : Registration). r.name) (λ (q : Query). q.registration) queries)
          ∙ (ap (map (λ (r : Registration). r.name)) same
          ∙ map-map (λ (r : Registration). r.name) (λ (q : Query). q.registration) world.queries)

      count : length queries ≡ length world.queries
      count =
          sym (length-map queries (λ (q : Query). q.registration))
          ∙ (ap length same ∙ length-map world.queries (λ (q : Query). q.registration))

pub empty_keeps : (slack : ℕ) → IsWorld (empty_world slack)
unfolding IsDistinct
empty_keeps slack = record {
  names = tt;
  live = omega arith;
  quads = omega arith;
  few = omega arith;
  timed = λ k d below. absurd (omega (arith, below));
  order = λ none i j d before below. absurd (omega (arith, below));
  instants = λ slack k d below. absurd (omega (arith, below));
}

-- ---- the two laws

module _ (world after : World) (within : IsWorld world) where
  by_text : (name : List ℕ) (asked : Result Registered TextFault) → is_live world name ≡ false → accept_text world name asked ≡ Ok after
      → IsWorld after
  by_text name (Err fault) free is = cc
  by_text name (Ok q) free is =
      by (has_slack_tuple world (reading_of q)) refl (nat_le most_queries (length world.queries)) refl (starts_overfull (reading_of q)) is
    where
      by : (slack : Bool) → has_slack_tuple world (reading_of q) ≡ slack
          → (full : Bool) → nat_le most_queries (length world.queries) ≡ full → (starts : Bool)
          → (if slack then Err SlackTuple else (if full then Err QueriesFull else (if starts then Err StartOverfull
          else Ok (record world { queries = world.queries ++ new_query name (reading_of q) (length world.items) ∷ [] })))) ≡ Ok after
          → IsWorld after
      by true none full test starts is = cc
      by false none true test starts is = cc
      by false none false test true is = cc
      by false none false test false is =
          let same : record world { queries = world.queries ++ new_query name (reading_of q) (length world.items) ∷ [] } ≡ after = cc in
          let room : length world.queries < most_queries = grind (arith, nat_tests, test) in
          subst IsWorld same (register_keeps world within name (reading_of q) free room none)

  by_register : (name text : List ℕ) → accept world (Register name text) ≡ Ok after → IsWorld after
  by_register name text is = by (is_live world name) refl is
    where
      by : (live : Bool) → is_live world name ≡ live → (if live then Err NameTaken else accept_text world name (read text)) ≡ Ok after
          → IsWorld after
      by true free is = cc
      by false free is = by_text name (read text) free is

  by_cancel : (name : List ℕ) → accept world (Cancel name) ≡ Ok after → IsWorld after
  by_cancel name is = by (is_live world name) is
    where
      by : (live : Bool) → (if not live then Err NoQuery else Ok (record world { queries = without name world.queries })) ≡ Ok after
          → IsWorld after
      by false is = cc
      by true is =
          let same : record world { queries = without name world.queries } ≡ after = cc in subst IsWorld same (without_keeps world within name)

  by_item : (item : Accepted) → accept_item world item ≡ Ok after → IsWorld after
  by_item item is =
      by (nat_lt item.time (next_of world)) refl (nat_lt most_triples (length item.graph)) (nat_lt most_held (held (with_item world item))) refl is
    where
      by : (early : Bool) → nat_lt item.time (next_of world) ≡ early → (large full : Bool) → nat_lt most_held (held (with_item world item)) ≡ full
          → (if early then Err (Late item.time (next_of world)) else (if large then Err (ItemTooLarge (length item.graph))
          else (if full then Err (HeldFull (held (with_item world item))) else Ok (with_item world item)))) ≡ Ok after → IsWorld after
      by true test large full few is = cc
      by false test true full few is = cc
      by false test false true few is = cc
      by false test false false few is =
          let same : with_item world item ≡ after = cc in
          subst IsWorld same
          (item_keeps world within item (ltb-false item.time (next_of world) test) (ltb-false most_held (held (with_item world item)) few))

  by_tick : (time : ℕ) → accept world (Tick time) ≡ Ok after → IsWorld after
  by_tick time is = by (nat_lt (time + 1) (next_of world)) refl is
    where
      by : (early : Bool) → nat_lt (time + 1) (next_of world) ≡ early
          → (if early then Err (Late time (next_of world)) else Ok (record world { next = Some (time + 1) })) ≡ Ok after → IsWorld after
      by true test is = cc
      by false test is =
          let same : record world { next = Some (time + 1) } ≡ after = cc in
          subst IsWorld same (tick_keeps world within time (ltb-false (time + 1) (next_of world) test))

  by_stored : (stored : List Fact) → accept_stored world stored ≡ Ok after → IsWorld after
  by_stored stored is = by (nat_lt most_quads (length stored)) refl is
    where
      by : (full : Bool) → nat_lt most_quads (length stored) ≡ full
          → (if full then Err (StoreFull (length stored)) else Ok (record world { stored = stored })) ≡ Ok after → IsWorld after
      by true test is = cc
      by false test is =
          let same : record world { stored = stored } ≡ after = cc in
          subst IsWorld same (stored_keeps world within stored (ltb-false most_quads (length stored) test))

-- an accepted event leaves the world within its bounds
pub accept_keeps : (world after : World) (event : Event) → IsWorld world → accept world event ≡ Ok after → IsWorld after
accept_keeps world after (Register name text) within is = by_register world after within name text is
accept_keeps world after (Cancel name) within is = by_cancel world after within name is
accept_keeps world after (Item stream time graph) within is =
    by_item world after within (record { stream = stream; time = time; graph = graph }) is
accept_keeps world after (Tick time) within is = by_tick world after within time is
accept_keeps world after (Insert quads) within is = by_stored world after within (stored_with world.stored quads) is
accept_keeps world after (Delete quads) within is =
    let same : record world { stored = stored_without world.stored quads } ≡ after = cc in subst IsWorld same (delete_keeps world within quads)

-- and so does a report
pub told_alike : (world : World) (t : ℕ) (name : List ℕ) (queries : List Query)
    → map (λ (q : Query). q.registration) (map (query_after_report world t name) queries) ≡ map (λ (q : Query). q.registration) queries
told_alike world t name [] = refl
told_alike world t name (query ∷ queries) = λ i. by (has_name name query.registration) i ∷ told_alike world t name queries i
  where
    by : (b : Bool) → (if b then reported_at world t query else query).registration ≡ query.registration
    by true = refl
    by false = refl

pub report_keeps : (world : World) (query : Registration) (t : ℕ) → IsWorld world → IsWorld (after_report world query t)
report_keeps world query t within = by (is_overfull world query t)
  where
    by : (full : Bool) → IsWorld (if full then record world { queries = without query.name world.queries }
        else record world { queries = map (query_after_report world t query.name) world.queries })
    by true = without_keeps world within query.name
    by false = alike_keeps world within (map (query_after_report world t query.name) world.queries)
        (told_alike world t query.name world.queries)
