-- When each live query is due next: what an item, an instant, a report and other queries do to it.
use Rattle.std.proofs.Common.{◌≡◌, ◌⊎◌, inl, inr, ℕ, zero, suc, ◌+◌, ◌-◌, ◌<◌, ◌≤◌, ◌%◌, ◌==◌, Bool, true, false, true≢false, ◌&&◌, ◌||◌, not, min, if◌then◌else◌, List, [], ◌∷◌, ◌++◌, length, map, remove, set, get_or, slice_get, slice_set, Option, None, Some, refl, sym, ap, subst, ◌∙◌, arith, get_or-set_same, get_or-set_other, length-set}
use Rattle.std.specs.Global.{Vec}
use Rattle.std.specs.Vec.{with_items}
use Rattle.std.specs.List.{All, list_any}
use Rattle.std.specs.Option.{option_map_or}
use Rattle.std.proofs.lemmas.Bool.{and_parts, cases_lt, le-ltb, lt-ltb}
use Rattle.std.proofs.lemmas.List.{get_or-map, length-map, with_items_is}
use Rattle.std.proofs.lemmas.List.Elements.{All-append, All-cons, All-nil}
use Rattle.std.proofs.lemmas.Option.{slice_get-get_or, slice_get_within}
use Rattle.std.proofs.lemmas.Simd.{map-map}
use Rattle.rsp_spec.specs.Limits.{last_instant}
use Rattle.rsp_spec.specs.Windows.{closes_at}
use Rattle.rsp_spec.proofs.InstantLaws.{least_alike}
use Rattle.rsp_report.specs.declared.chosen.Chosen.{Chosen}
use Rattle.rsp_report.specs.declared.contents.Watched.{Watched}
use Rattle.rsp_report.specs.Due as windows
use Rattle.rsp_engine.specs.declared.schedule.Pending.{Pending}
use Rattle.rsp_engine.specs.declared.live_query.LiveQuery.{LiveQuery}
use Rattle.rsp_engine.specs.declared.readers.Readers.{Readers}
use Rattle.rsp_engine.specs.Inside.{AreSought, IsSought, Parts, asked, parts_of, undated}
use Rattle.rsp_engine.specs.Left.{IsFirstLeft}
use Rattle.rsp_engine.specs.Readers.{AreRead, IsStill}
use Rattle.rsp_engine.specs.Sought.{IsDueNext, IsSoonest, IsSoonestAt, first_number, look_behind}
use Rattle.rsp_engine.specs.Watched.{IsCalmed, calmed}
use Rattle.rsp_engine.specs.Watching.{Asked, IsWatching, is_due_by, is_due_over_by, name_of, reports_by}
use Rattle.rsp_engine.proofs.Named.{All-remove, get_map, set_map, set_same}
use Rattle.rsp_engine.proofs.ReadAlike.{fixed_parts, watchers_alike, windows_alike}
use Rattle.rsp_engine.proofs.Soonest.{first_at_next, first_by_number, least_later, look_is}

-- ---- a query that looks at items

never_by_tuple : (a : Asked) (t : ℕ) → a.policy.tuple ≡ true → is_due_by a t ≡ true → ⊥
never_by_tuple a t tuple due = true≢false (sym due ∙ ap (λ b. not b && windows.is_due a.policy a.watched t) tuple)

-- is due at no instant, from wherever it is looked at
pub tuple_sought : (a : Asked) (from to : ℕ) (due : Option ℕ) → a.policy.tuple ≡ true → IsDueNext from a due → IsDueNext to a due
tuple_sought a from to None tuple is = λ t late early due. never_by_tuple a t tuple due
tuple_sought a from to (Some n) tuple is = absurd (never_by_tuple a n tuple is.2)

-- reports at `next`
tuple_there : (next at : ℕ) (arrived : Option (List ℕ)) (a : Asked) → next ≤ at → reports_by next arrived at a ≡ true → a.policy.tuple ≡ true
tuple_there next at arrived a late reports =
    by arrived
    (subst (λ b. (if b then is_due_by a at else option_map_or (λ stream. is_due_over_by a stream next) arrived false) ≡ true)
    (le-ltb at next late) reports)
  where
    by : (arrived : Option (List ℕ)) → option_map_or (λ stream. is_due_over_by a stream next) arrived false ≡ true → a.policy.tuple ≡ true
    by None is = absurd (true≢false (sym is))
    by (Some stream) is = (and_parts _ _ is).0

-- ---- an item of another stream

any_calmed : (test : Watched → Bool) → ((w : Watched) → test (calmed w) ≡ test w) → (ws : List Watched)
    → list_any test (map calmed ws) ≡ list_any test ws
any_calmed test same [] = refl
any_calmed test same (w ∷ ws) = λ k. same w k || any_calmed test same ws k

due_calmed : (policy : Chosen) (ws : List Watched) (t : ℕ) → windows.is_due policy (map calmed ws) t ≡ windows.is_due policy ws t
due_calmed policy ws t = λ k.
    (not policy.close || any_calmed (λ (w : Watched). closes_at w.window t) (λ w. refl) ws k)
    && ((not policy.change || any_calmed (windows.changes t) (λ w. refl) ws k)
    && ((not policy.nonempty || any_calmed (windows.has_content t) (λ w. refl) ws k)
    && option_map_or (λ period. t % period == 0) policy.period true))

-- leaves it, since nothing else is watched but what is fresh
pub calmed_sought : {A : Type 0} (from : ℕ) (old new : LiveQuery A) → IsCalmed old new → IsSought from old → IsSought from new
calmed_sought {A} from old new is sought =
    subst (IsDueNext from (asked new)) (sym is.due)
    (least_alike (λ t. is_due_by (asked old) t ≡ true) (λ t. is_due_by (asked new) t ≡ true)
    (λ t due. same t ∙ due) (λ t due. sym (same t) ∙ due) from last_instant old.due sought)
  where
    policies : new.policy ≡ old.policy
    policies = ap (λ (p : Parts A). p.query.reading.policy) is.parts

    same : (t : ℕ) → is_due_by (asked new) t ≡ is_due_by (asked old) t
    same t =
        (λ k. not (policies k).tuple && windows.is_due (policies k) (is.watched k) t)
        ∙ ap (λ b. not old.policy.tuple && b) (due_calmed old.policy old.watched.items t)

-- ---- what doesn't depend on it

module _ {A : Type 0} (olds news : List (LiveQuery A)) (same : map undated news ≡ map undated olds) where
  many_dated : length news ≡ length olds
  many_dated = sym (length-map news undated) ∙ (ap length same ∙ length-map olds undated)

  one_undated : (k : ℕ) (d : LiveQuery A) → k < length news → undated (get_or news k d) ≡ undated (get_or olds k d)
  one_undated k d within =
      sym (get_or-map undated news k d (undated d) within)
      ∙ (ap (λ l. get_or l k (undated d)) same ∙ get_or-map undated olds k d (undated d) (omega (arith, within, many_dated)))

  pub all_dated : (P : LiveQuery A → Type 0) → All (λ live. P (undated live)) olds → All (λ live. P (undated live)) news
  all_dated P all k d within = subst P (sym (one_undated k d within)) (all k d (omega (arith, within, many_dated)))

  same_by : {Y : Type 0} (f : LiveQuery A → Y) → map (λ live. f (undated live)) news ≡ map (λ live. f (undated live)) olds
  same_by f = sym (map-map f undated news) ∙ (ap (map f) same ∙ map-map f undated olds)

  pub parts_dated : map parts_of news ≡ map parts_of olds
  parts_dated = same_by parts_of

  pub read_dated : (readers : Readers) → AreRead readers olds → AreRead readers news
  read_dated readers are = record {
    watchers = watchers_alike readers readers olds news are (fixed_parts olds news parts_dated) (λ s. refl);
    windows = windows_alike readers readers olds news are (fixed_parts olds news parts_dated) (λ s. refl);
    still = all_dated (IsStill readers.newest) are.still;
  }

-- the queries of a vector, written back
pub dated_back : {A : Type 0} (queries : Vec (LiveQuery A)) (news : List (LiveQuery A)) → map undated news ≡ map undated queries.items
    → (with_items queries news).items ≡ news
dated_back queries news same =
    with_items_is queries news
    (sym (length-map news undated) ∙ (ap length same ∙ (length-map queries.items undated ∙ sym queries.ok.0)))

-- ---- one query after another, looked at anew

abbrev pub AreSoughtSoFar : {A : Type 0} → ℕ → ℕ → List (LiveQuery A) → Type 0
AreSoughtSoFar {A} from many queries = (k : ℕ) (d : LiveQuery A) → k < many → k < length queries → IsSought from (get_or queries k d)

module _ {A : Type 0} (from i : ℕ) (olds queries : List (LiveQuery A)) (d : LiveQuery A) (within : i < length queries)
    (same : map undated queries ≡ map undated olds) where
  -- the one of number i watches as before
  pub watching_there : All (λ live. IsWatching (asked live)) olds → IsWatching (asked (get_or queries i d))
  watching_there watching = all_dated olds queries same (λ live. IsWatching (asked live)) watching i d within

  module _ (new : LiveQuery A) where
    pub one_dated : undated new ≡ undated (get_or queries i d) → map undated (set queries i new) ≡ map undated olds
    one_dated dated =
        let one = get_or queries i d in
        set_map undated queries i new
        ∙ (ap (slice_set (map undated queries) i) dated
        ∙ (set_same (map undated queries) i (undated one) (get_map undated queries i one (slice_get-get_or queries i d within)) ∙ same))

    pub sought_so_far : AreSoughtSoFar from i queries → IsSought from new → AreSoughtSoFar from (i + 1) (set queries i new)
    sought_so_far before sought k e below inside = elim (cases_lt k i) [
      | inl less ↦
          subst (IsSought from) (sym (get_or-set_other queries i k new e (λ at. omega (arith, at, less))))
          (before k e less (omega (arith, less, within)))
      | inr more ↦
          let at : i ≡ k = omega (arith, below, more) in
          subst (λ j. IsSought from (get_or (set queries i new) j e)) at
          (subst (IsSought from) (sym (get_or-set_same queries i new e within)) sought)
    ]

-- ---- other queries

-- once no moment is left, one more and one fewer
module _ {A : Type 0} (next : ℕ) (first : Option Pending) (queries : List (LiveQuery A)) (idle : first ≡ None) (sought : AreSought next first queries) where
  pub all_sought : All (λ live. IsSought next live) queries
  all_sought = subst (λ f. AreSought next f queries) idle sought

  pub sought_more : (query : LiveQuery A) → IsSought next query → AreSought next first (queries ++ query ∷ [])
  sought_more query one =
      subst (λ f. AreSought next f (queries ++ query ∷ [])) (sym idle)
      (All-append (λ live. IsSought next live) queries (query ∷ []) all_sought
      (All-cons (λ live. IsSought next live) query [] one (All-nil {X = LiveQuery A} (λ live. IsSought next live))))

  pub sought_less : (place : ℕ) → AreSought next first (remove queries place)
  sought_less place =
      subst (λ f. AreSought next f (remove queries place)) (sym idle)
      (All-remove (λ live. IsSought next live) queries place all_sought)

-- all that are looked at from an instant on
pub sought_from : {A : Type 0} (at to : ℕ) (queries : List (LiveQuery A)) → at ≤ to → All (λ live. IsSought at live) queries
    → AreSought to (Some (record { at = at; query = 0 })) queries
sought_from at to queries low all = λ i d within. subst (λ n. IsSought n (get_or queries i d)) (sym (from_there i)) (all i d within)
  where
    from_there : (i : ℕ) → look_behind to (record { at = at; query = 0 }) i ≡ at
    from_there i =
        let look : look_behind to (record { at = at; query = 0 }) i ≡ min (at + min 1 (0 - i)) to = look_is to i (record { at = at; query = 0 }) in
        omega (arith, look, low)

-- ---- behind a report

remove_low : {X : Type 0} (xs : List X) (q i : ℕ) (d : X) → i < q → get_or (remove xs q) i d ≡ get_or xs i d
remove_low xs zero i d less = absurd (omega (arith, less))
remove_low [] (suc q) i d less = refl
remove_low (x ∷ xs) (suc q) zero d less = refl
remove_low (x ∷ xs) (suc q) (suc i) d less = remove_low xs q i d (omega (arith, less))

remove_high : {X : Type 0} (xs : List X) (q i : ℕ) (d : X) → q ≤ i → get_or (remove xs q) i d ≡ get_or xs (suc i) d
remove_high [] zero i d more = refl
remove_high [] (suc q) i d more = refl
remove_high (x ∷ xs) zero i d more = refl
remove_high (x ∷ xs) (suc q) zero d more = absurd (omega (arith, more))
remove_high (x ∷ xs) (suc q) (suc i) d more = remove_high xs q i d (omega (arith, more))

remove_long : {X : Type 0} (xs : List X) (q : ℕ) → q < length xs → suc (length (remove xs q)) ≡ length xs
remove_long [] q within = absurd (omega (arith, within))
remove_long (x ∷ xs) zero within = refl
remove_long (x ∷ xs) (suc q) within = ap suc (remove_long xs q (omega (arith, within)))

module _ {A : Type 0} (next : ℕ) (arrived : Option (List ℕ)) (place : Pending) (queries : List (LiveQuery A)) (live now : LiveQuery A)
    (within : place.at ≤ next) (listed : slice_get queries place.query ≡ Some live) (sought : AreSought next (Some place) queries) where
  -- of a query that isn't asked any more
  pub sought_gone : AreSought next (Some (record { at = place.at; query = place.query })) (remove queries place.query)
  sought_gone i d inside = elim (cases_lt i place.query) [
    | inl less ↦
        let below : i < length queries = let there = slice_get_within queries place.query live listed in omega (arith, less, there) in
        subst (IsSought (look_behind next place i)) (sym (remove_low queries place.query i d less)) (sought i d below)
    | inr more ↦
        let long = remove_long queries place.query (slice_get_within queries place.query live listed) in
        let below : suc i < length queries = omega (arith, inside, long) in
        let here = look_is next i place in
        let there = look_is next (suc i) place in
        let same : look_behind next place (suc i) ≡ look_behind next place i = omega (arith, here, there, more) in
        subst (IsSought (look_behind next place i)) (sym (remove_high queries place.query i d more))
        (subst (λ n. IsSought n (get_or queries (suc i) d)) same (sought (suc i) d below))
  ]

  -- of one that is looked at from the instant behind on
  pub sought_on : reports_by next arrived place.at (asked live) ≡ true → asked now ≡ asked live → IsSought (place.at + 1) now
      → AreSought next (Some (record { at = place.at; query = place.query + 1 })) (slice_set queries place.query now)
  sought_on reports same behind i d inside = elim (cases_lt i place.query) [
    | inl less ↦ other i d (below i inside) (λ is. omega (arith, is, less)) (inl less)
    | inr more ↦ elim (cases_lt place.query i) [
      | inl after ↦ other i d (below i inside) (λ is. omega (arith, is, after)) (inr after)
      | inr equal ↦
          let is : place.query ≡ i = omega (arith, more, equal) in
          subst (λ j. IsSought (look_behind next (record { at = place.at; query = place.query + 1 }) j) (get_or (slice_set queries place.query now) j d)) is (own d)
    ]
  ]
    where
      long : length (slice_set queries place.query now) ≡ length queries
      long = length-set queries place.query now

      below : (i : ℕ) → i < length (slice_set queries place.query now) → i < length queries
      below i inside = omega (arith, inside, long)

      other : (i : ℕ) (d : LiveQuery A) → i < length queries → (i ≡ place.query → ⊥) → ((i < place.query) ⊎ (place.query < i))
          → IsSought (look_behind next (record { at = place.at; query = place.query + 1 }) i) (get_or (slice_set queries place.query now) i d)
      other i d below apart side =
          subst (IsSought (look_behind next (record { at = place.at; query = place.query + 1 }) i)) (sym (get_or-set_other queries place.query i now d apart))
          (subst (λ n. IsSought n (get_or queries i d)) (looks side) (sought i d below))
        where
          looks : (i < place.query) ⊎ (place.query < i)
              → look_behind next place i ≡ look_behind next (record { at = place.at; query = place.query + 1 }) i
          looks (inl less) =
              let here = look_is next i place in
              let there : look_behind next (record { at = place.at; query = place.query + 1 }) i ≡ min (place.at + min 1 (place.query + 1 - i)) next =
              look_is next i (record { at = place.at; query = place.query + 1 }) in
              omega (arith, here, there, less)
          looks (inr after) =
              let here = look_is next i place in
              let there : look_behind next (record { at = place.at; query = place.query + 1 }) i ≡ min (place.at + min 1 (place.query + 1 - i)) next =
              look_is next i (record { at = place.at; query = place.query + 1 }) in
              omega (arith, here, there, after)

      own_by : IsSought (look_behind next (record { at = place.at; query = place.query + 1 }) place.query) now
      own_by =
          let look : look_behind next (record { at = place.at; query = place.query + 1 }) place.query ≡ min (place.at + min 1 (place.query + 1 - place.query)) next =
          look_is next place.query (record { at = place.at; query = place.query + 1 }) in
          elim (cases_lt place.at next) [
            | inl less ↦
                let is : place.at + 1 ≡ look_behind next (record { at = place.at; query = place.query + 1 }) place.query = omega (arith, look, less) in
                subst (λ n. IsSought n now) is behind
            | inr late ↦
                let tuple : (asked now).policy.tuple ≡ true = ap (λ (a : Asked). a.policy.tuple) same ∙ tuple_there next place.at arrived (asked live) late reports in
                tuple_sought (asked now) (place.at + 1) (look_behind next (record { at = place.at; query = place.query + 1 }) place.query) now.due tuple behind
          ]

      own : (d : LiveQuery A) → IsSought (look_behind next (record { at = place.at; query = place.query + 1 }) place.query) (get_or (slice_set queries place.query now) place.query d)
      own d =
          subst (IsSought (look_behind next (record { at = place.at; query = place.query + 1 }) place.query))
          (sym (get_or-set_same queries place.query now d (slice_get_within queries place.query live listed))) own_by

-- ---- the first moment left

module _ {A : Type 0} (arrived : Option (List ℕ)) (next : ℕ) (high : next ≤ last_instant + 1) (from : Pending) (low : from.at ≤ next)
    (queries : List (LiveQuery A)) (sought : AreSought next (Some from) queries) where
  reports_below : (t : ℕ) (a : Asked) → t < next → reports_by next arrived t a ≡ is_due_by a t
  reports_below t a below =
      ap (λ b. if b then is_due_by a t else option_map_or (λ stream. is_due_over_by a stream next) arrived false) (lt-ltb t next below)

  look_low : (k s : ℕ) → from.at ≤ s → (s ≡ from.at → from.query ≤ k) → s < next → look_behind next from k ≤ s
  look_low k s late order below =
      let look = look_is next k from in
      elim (cases_lt from.at s) [
        | inl less ↦ omega (arith, look, less)
        | inr more ↦ let after = order (omega (arith, late, more)) in omega (arith, look, late, more, after)
      ]

  -- where it is due next it reports
  sound_by : (k n : ℕ) (live : LiveQuery A) → IsSought (look_behind next from k) live → live.due ≡ Some n → n < next
      → (from.at ≤ n) × (n ≡ from.at → from.query ≤ k) × (reports_by next arrived n (asked live) ≡ true)
  sound_by k n live is some below =
      let found : IsDueNext (look_behind next from k) (asked live) (Some n) = subst (IsDueNext (look_behind next from k) (asked live)) some is in
      let look = look_is next k from in
      let late = found.0 in (
        omega (arith, look, late, below),
        λ same. omega (arith, look, late, below, same),
        reports_below n (asked live) below ∙ found.2,
      )

  -- where it reports it is due next, or was before
  known_by : (k s : ℕ) (a : Asked) (due : Option ℕ) → IsDueNext (look_behind next from k) a due → from.at ≤ s → (s ≡ from.at → from.query ≤ k)
      → s < next → reports_by next arrived s a ≡ true → (n : ℕ) × (due ≡ Some n) × (n ≤ s)
  known_by k s a None is late order below reports =
      absurd (is s (look_low k s late order below) (omega (arith, below, high)) (sym (reports_below s a below) ∙ reports))
  known_by k s a (Some n) is late order below reports =
      (n, refl, is.3 s (look_low k s late order below) (sym (reports_below s a below) ∙ reports))

  abbrev due_of : LiveQuery A → Option ℕ
  due_of live = live.due

  abbrev called : LiveQuery A → List ℕ
  called live = name_of (asked live)

  abbrev reports : ℕ → LiveQuery A → Bool
  reports t live = reports_by next arrived t (asked live)

  -- looked at from later on
  later : (i : ℕ) (d : LiveQuery A) (look : ℕ) → i < length queries → look_behind next from i ≤ look
      → ((n : ℕ) → (get_or queries i d).due ≡ Some n → look ≤ n) → IsSought look (get_or queries i d)
  later i d look within behind beyond =
      least_later (λ t. is_due_by (asked (get_or queries i d)) t ≡ true) (look_behind next from i) look last_instant (get_or queries i d).due behind beyond
      (sought i d within)

  module _ (place : Pending) (is : IsSoonestAt due_of queries (length queries) next place) where
    pub soonest_first : IsFirstLeft called reports queries next from.at from.query (Some place)
    soonest_first =
        first_by_number called reports queries next from.at from.query low due_of
        (λ k n d within some below. sound_by k n (get_or queries k d) (sought k d within) some below)
        (λ k s d within late order below reports. known_by k s (asked (get_or queries k d)) (get_or queries k d).due (sought k d within) late order below reports)
        place is

    pub soonest_sought : AreSought next (Some place) queries
    soonest_sought i d within =
        let first = soonest_first in
        let late = first.1 in
        let before = look_is next i from in
        let now = look_is next i place in
        later i d (look_behind next place i) within
        (elim (cases_lt from.at place.at) [
          | inl less ↦ omega (arith, before, now, less)
          | inr more ↦ let order = first.2 (omega (arith, late, more)) in omega (arith, before, now, late, more, order)
        ])
        (λ n some.
        let least = is.least i n d within some in
        elim (cases_lt i place.query) [
          | inl less ↦ let after = is.first i n d less some in omega (arith, now, after)
          | inr more ↦ omega (arith, now, least, more)
        ])

  module _ (none : IsSoonest due_of queries (length queries) next None) (r : Option Pending)
      (first : IsFirstLeft called reports queries next next (first_number from next) r) where
    pub item_first : IsFirstLeft called reports queries next from.at from.query r
    item_first =
        first_at_next called reports queries next from.at from.query low due_of
        (λ k n d within some below. sound_by k n (get_or queries k d) (sought k d within) some below)
        (λ k s d within late order below reports. known_by k s (asked (get_or queries k d)) (get_or queries k d).due (sought k d within) late order below reports)
        none r first

    pub item_sought : AreSought next r queries
    item_sought = by r first
      where
        at_next : (i : ℕ) (d : LiveQuery A) → i < length queries → IsSought next (get_or queries i d)
        at_next i d within =
            let before = look_is next i from in
            later i d next within (omega (arith, before)) (λ n some. none i n d within some)

        by : (r : Option Pending) → IsFirstLeft called reports queries next next (first_number from next) r → AreSought next r queries
        by None first = at_next
        by (Some place) first = λ i d within.
            let late = first.1 in
            let look = look_is next i place in
            let is : next ≡ look_behind next place i = omega (arith, look, late) in
            subst (λ n. IsSought n (get_or queries i d)) is (at_next i d within)
