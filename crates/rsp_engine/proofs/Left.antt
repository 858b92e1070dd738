-- The moments that are left from a place on, and how they go.
use Rattle.std.proofs.Common.{◌≡◌, ℕ, zero, suc, ◌+◌, ◌-◌, ◌<◌, ◌≤◌, Bool, true, false, true≢false, not, ◌||◌, cond, List, [], ◌∷◌, ◌++◌, filter, map, drop, Option, None, Some, slice_get, refl, sym, ap, subst, ◌∙◌, arith, nat_lt, bytes_eq, if◌then◌else◌}
use Rattle.std.specs.List.{All, flat_map, list_any, range_with_len}
use Rattle.std.specs.Option.{ForSome, option_map_or}
use Rattle.std.proofs.lemmas.Bool.{lt-ltb, le-ltb}
use Rattle.std.proofs.lemmas.List.{append-nil, append_assoc, drop-map, drop_more}
use Rattle.std.proofs.lemmas.List.Elements.{All-drop, filter-append}
use Rattle.std.proofs.lemmas.Option.{get_or_from_slice_get, same_Some, slice_get_within}
use Rattle.rsp_scope.specs.Contents.{Accepted}
use Rattle.rsp_engine.specs.declared.schedule.Pending.{Pending}
use Rattle.rsp_engine.specs.World.{Registration}
use Rattle.rsp_engine.specs.Due.{is_due}
use Rattle.rsp_engine.specs.Seeing.{is_due_over, newest}
use Rattle.rsp_engine.specs.Moments.{Moment, moments_at}
use Rattle.rsp_engine.specs.Left.{IsFirstLeft, IsWaiting, left_from, moments_of, name_in, reports_at}
use Rattle.rsp_engine.proofs.Named.{get_map, last_of}

-- ---- one step

drop_is : {X : Type 0} (xs : List X) (i : ℕ) (x : X) → slice_get xs i ≡ Some x → drop i xs ≡ x ∷ drop (i + 1) xs
drop_is xs i x listed =
    drop_more xs i x (slice_get_within xs i x listed) ∙ ap (λ y. y ∷ drop (i + 1) xs) (get_or_from_slice_get xs i x x listed)

none_pass : {X : Type 0} (test : X → Bool) (xs : List X) → list_any test xs ≡ false → filter test xs ≡ []
none_pass test [] none = refl
none_pass test (x ∷ xs) none =
    elim (test x) as (λ v. (v || list_any test xs) ≡ false → cond v (x ∷ filter test xs) (filter test xs) ≡ []) [
      | true ↦ λ is. absurd (true≢false is)
      | false ↦ λ is. none_pass test xs is
    ] none

module _ {Q : Type 0} (name : Q → List ℕ) (test : ℕ → Q → Bool) (queries : List Q) (last : ℕ) where
  -- a query that passes is the first
  pub head : (t i : ℕ) (query : Q) → slice_get queries i ≡ Some query → test t query ≡ true
      → left_from name test queries last t i ≡ record { at = t; query = name query } ∷ left_from name test queries last t (i + 1)
  head t i query listed passes = rw (drop_is queries i query listed, passes) refl

  -- queries that don't pass are passed over
  pub quiet : (t i k : ℕ) → filter (test t) (drop i queries) ≡ filter (test t) (drop k queries)
      → left_from name test queries last t i ≡ left_from name test queries last t k
  quiet t i k same = rw same refl

  -- the end of an instant leads to the next
  pub over : (t i : ℕ) → filter (test t) (drop i queries) ≡ [] → t < last
      → left_from name test queries last t i ≡ left_from name test queries last (t + 1) 0
  over t i none below =
      let more : last - t ≡ suc (last - (t + 1)) = omega arith in
      rw (none, more) refl

  -- behind the last is nothing
  pub ended : (t i : ℕ) → filter (test t) (drop i queries) ≡ [] → last ≤ t → left_from name test queries last t i ≡ []
  ended t i none beyond =
      let less : last - t ≡ 0 = omega arith in
      rw (none, less) refl

  -- ---- instants that are passed over

  jump_by : (gap t u : ℕ) → t + gap ≡ u → u ≤ last → ((s : ℕ) → t ≤ s → s < u → list_any (test s) queries ≡ false)
      → left_from name test queries last t 0 ≡ left_from name test queries last u 0
  jump_by zero t u is high none = let same : t ≡ u = omega arith in ap (λ s. left_from name test queries last s 0) same
  jump_by (suc gap) t u is high none =
      let here = none_pass (test t) queries (none t (omega arith) (omega arith)) in
      over t 0 here (omega arith) ∙ jump_by gap (t + 1) u (omega arith) high (λ s late early. none s (omega arith) early)

  pub jump : (t u : ℕ) → t ≤ u → u ≤ last → ((s : ℕ) → t ≤ s → s < u → list_any (test s) queries ≡ false)
      → left_from name test queries last t 0 ≡ left_from name test queries last u 0
  jump t u low high none = jump_by (u - t) t u (omega arith) high none

  pub none : (t : ℕ) → t ≤ last → ((s : ℕ) → t ≤ s → s ≤ last → list_any (test s) queries ≡ false)
      → left_from name test queries last t 0 ≡ []
  none t low nowhere =
      jump t last low (omega arith) (λ s late early. nowhere s late (omega arith))
      ∙ ended last 0 (none_pass (test last) queries (nowhere last low (omega arith))) (omega arith)

  -- ---- the first place

  pub waiting_head : (place : Pending) (query : Q) → IsWaiting test queries last place
      → slice_get queries place.query ≡ Some query
      → left_from name test queries last place.at place.query
      ≡ record { at = place.at; query = name query } ∷ left_from name test queries last place.at (place.query + 1)
  waiting_head place query waiting listed =
      let same : waiting.query ≡ query = same_Some _ _ (sym waiting.listed ∙ listed) in
      head place.at place.query query listed (subst (λ q. test place.at q ≡ true) same waiting.reports)

  pub first_left_is : (t i : ℕ) (r : Option Pending) → IsFirstLeft name test queries last t i r
      → option_map_or (λ (place : Pending). left_from name test queries last place.at place.query) r []
      ≡ left_from name test queries last t i
  first_left_is t i None is = sym is
  first_left_is t i (Some place) is = sym is.3

  -- where a query waits, a moment is left
  pub waiting_some : (place : Pending) → IsWaiting test queries last place
      → left_from name test queries last place.at place.query ≡ [] → ⊥
  waiting_some place waiting is = let first = waiting_head place waiting.query waiting waiting.listed in cc

  -- ---- all from an instant on

  more_at : (f : ℕ → List Moment) (from n : ℕ)
      → flat_map f (range_with_len from (suc n)) ≡ flat_map f (range_with_len from n) ++ f (from + n)
  more_at f from zero = let same : from + 0 ≡ from = omega arith in rw same (append-nil (f from))
  more_at f from (suc n) =
      let same : from + suc n ≡ (from + 1) + n = omega arith in
      rw same
      (ap (λ rest. f from ++ rest) (more_at f (from + 1) n)
      ∙ sym (append_assoc (f from) (flat_map f (range_with_len (from + 1) n)) (f (from + 1 + n))))

  pub event : (from : ℕ) → from ≤ last
      → left_from name test queries last from 0
      ≡ flat_map (λ t. moments_of name (test t) queries t) (range_with_len from (last - from)) ++ moments_of name (test last) queries last
  event from low =
      let same : from + (last - from) ≡ last = omega arith in
      more_at (λ t. moments_of name (test t) queries t) from (last - from)
      ∙ ap (λ end. flat_map (λ t. moments_of name (test t) queries t) (range_with_len from (last - from))
      ++ moments_of name (test end) queries end) same

-- an event's moments: those of the instants that became complete, then those on the item that arrived
module _ (items : List Accepted) (to : ℕ) (arrived : Option (List ℕ)) (queries : List Registration) where
  abbrev on_arrival : Registration → Bool
  on_arrival query = option_map_or (λ stream. is_due_over items query stream to) arrived false

  -- what is tested at an instant, by whether it is complete
  abbrev tested : ℕ → Bool → Registration → Bool
  tested t complete query = if complete then is_due items query t else on_arrival query

  complete : (n from : ℕ) → from + n ≤ to
      → flat_map (λ t. moments_at (reports_at items to arrived t) queries t) (range_with_len from n)
      ≡ flat_map (λ t. moments_at (λ query. is_due items query t) queries t) (range_with_len from n)
  complete zero from high = refl
  complete (suc n) from high =
      let below : nat_lt from to ≡ true = lt-ltb from to (omega arith) in
      ap (λ b. moments_at (tested from b) queries from
      ++ flat_map (λ t. moments_at (reports_at items to arrived t) queries t) (range_with_len (from + 1) n)) below
      ∙ ap (λ rest. moments_at (λ query. is_due items query from) queries from ++ rest) (complete n (from + 1) (omega arith))

  pub instants : (from : ℕ) → from ≤ to
      → left_from name_in (reports_at items to arrived) queries to from 0
      ≡ flat_map (λ t. moments_at (λ query. is_due items query t) queries t) (range_with_len from (to - from))
      ++ moments_at on_arrival queries to
  instants from low =
      let beyond : nat_lt to to ≡ false = le-ltb to to (omega arith) in
      event name_in (reports_at items to arrived) queries to from low
      ∙ (ap (λ early. early ++ moments_at (reports_at items to arrived to) queries to) (complete (to - from) from (omega arith))
      ∙ ap (λ b. flat_map (λ t. moments_at (λ query. is_due items query t) queries t) (range_with_len from (to - from))
      ++ moments_at (tested to b) queries to) beyond)

-- a place that is set waits
pub waits_at : {Q : Type 0} (name : Q → List ℕ) (test : ℕ → Q → Bool) (queries : List Q) (last t i : ℕ) (r : Option Pending)
    → IsFirstLeft name test queries last t i r → ForSome r (IsWaiting test queries last)
waits_at name test queries last t i None first = λ x is. cc
waits_at name test queries last t i (Some place) first = λ x is. let same : place ≡ x = cc in subst (IsWaiting test queries last) same first.0

-- ---- tests that agree

same_filter : {X : Type 0} (p q : X → Bool) (xs : List X) → All (λ x. p x ≡ q x) xs → filter p xs ≡ filter q xs
same_filter p q [] all = refl
same_filter p q (x ∷ xs) all =
    let first : p x ≡ q x = all 0 x (omega arith) in
    let rest = same_filter p q xs (λ k d below. all (suc k) d (omega (arith, below))) in
    rw (first, rest) refl

module _ {Q : Type 0} (name : Q → List ℕ) (one other : ℕ → Q → Bool) (queries : List Q) (last : ℕ) where
  same_later : (n from t : ℕ) → from + n ≤ last + 1 → t ≤ from → ((s : ℕ) → t ≤ s → s ≤ last → All (λ query. one s query ≡ other s query) queries)
      → flat_map (λ later. moments_of name (one later) queries later) (range_with_len from n)
      ≡ flat_map (λ later. moments_of name (other later) queries later) (range_with_len from n)
  same_later zero from t high low same = refl
  same_later (suc n) from t high low same =
      let here = same_filter (one from) (other from) queries (same from low (omega (arith, high))) in
      rw (here, same_later n (from + 1) t (omega (arith, high)) (omega (arith, low)) same) refl

  -- the moments left are the same by tests that agree from the instant on
  pub same_left : (t i : ℕ) → t ≤ last → ((s : ℕ) → t ≤ s → s ≤ last → All (λ query. one s query ≡ other s query) queries)
      → left_from name one queries last t i ≡ left_from name other queries last t i
  same_left t i low same =
      let here = same_filter (one t) (other t) (drop i queries) (All-drop (λ query. one t query ≡ other t query) i queries (same t (omega arith) low)) in
      rw (here, same_later (last - t) (t + 1) t (omega (arith, low)) (omega arith) same) refl

  -- a first place is one by the other
  pub same_first : (t i : ℕ) (r : Option Pending) → t ≤ last → ((s : ℕ) → t ≤ s → s ≤ last → All (λ query. one s query ≡ other s query) queries)
      → IsFirstLeft name one queries last t i r → IsFirstLeft name other queries last t i r
  same_first t i None low same first = sym (same_left t i low same) ∙ first
  same_first t i (Some place) low same first =
      let at = same place.at first.1 first.0.within in
      let listed = first.0.listed in
      let agrees : one place.at first.0.query ≡ other place.at first.0.query =
      subst (λ q. one place.at q ≡ other place.at q) (get_or_from_slice_get queries place.query first.0.query first.0.query listed)
      (at place.query first.0.query (slice_get_within queries place.query first.0.query listed)) in (
        record { within = first.0.within; query = first.0.query; listed = listed; reports = sym agrees ∙ first.0.reports },
        first.1,
        first.2,
        sym (same_left t i low same) ∙ (first.3 ∙ same_left place.at place.query first.0.within (λ s late early. same s (omega (arith, first.1, late)) early)),
      )

-- ---- queries by what they are read as

module _ {Q R : Type 0} (read : Q → R) (name : R → List ℕ) (test : ℕ → R → Bool) where
  read_at : (queries : List Q) (t : ℕ) → moments_of (λ q. name (read q)) (λ q. test t (read q)) queries t ≡ moments_of name (test t) (map read queries) t
  read_at [] t = refl
  read_at (q ∷ queries) t = by (test t (read q)) (read_at queries t)
    where
      by : (b : Bool) → moments_of (λ q. name (read q)) (λ q. test t (read q)) queries t ≡ moments_of name (test t) (map read queries) t
          → map {B = Moment} (λ q. record { at = t; query = name (read q) }) (cond b (q ∷ filter (λ q. test t (read q)) queries) (filter (λ q. test t (read q)) queries))
          ≡ map {B = Moment} (λ r. record { at = t; query = name r }) (cond b (read q ∷ filter (test t) (map read queries)) (filter (test t) (map read queries)))
      by true rest = ap (λ ms. record { at = t; query = name (read q) } ∷ ms) rest
      by false rest = rest

  read_later : (queries : List Q) (ts : List ℕ) → flat_map (λ t. moments_of (λ q. name (read q)) (λ q. test t (read q)) queries t) ts ≡ flat_map (λ t. moments_of name (test t) (map read queries) t) ts
  read_later queries [] = refl
  read_later queries (t ∷ ts) = rw (read_at queries t, read_later queries ts) refl

  pub read_left : (queries : List Q) (last t i : ℕ) → left_from (λ q. name (read q)) (λ t q. test t (read q)) queries last t i ≡ left_from name test (map read queries) last t i
  read_left queries last t i =
      ap (λ ms. ms ++ flat_map (λ later. moments_of (λ q. name (read q)) (λ q. test later (read q)) queries later) (range_with_len (t + 1) (last - t))) (read_at (drop i queries) t ∙ ap (λ qs. moments_of name (test t) qs t) (sym (drop-map read i queries)))
      ∙ ap (λ ms. moments_of name (test t) (drop i (map read queries)) t ++ ms) (read_later queries (range_with_len (t + 1) (last - t)))

  -- a first place is one
  pub read_first : (queries : List Q) (last t i : ℕ) (r : Option Pending) → IsFirstLeft (λ q. name (read q)) (λ t q. test t (read q)) queries last t i r → IsFirstLeft name test (map read queries) last t i r
  read_first queries last t i None first = sym (read_left queries last t i) ∙ first
  read_first queries last t i (Some place) first = (
    record { within = first.0.within; query = read first.0.query; listed = get_map read queries place.query first.0.query first.0.listed; reports = first.0.reports },
    first.1,
    first.2,
    sym (read_left queries last t i) ∙ (first.3 ∙ read_left queries last place.at place.query),
  )

-- the item that was accepted last
pub newest_of : (items : List Accepted) (item : Accepted) → newest (items ++ item ∷ []) ≡ Some item
newest_of items item = last_of items item

-- ---- where a query goes

module _ {Q : Type 0} (name : Q → List ℕ) (test : ℕ → Q → Bool) (gone_name : List ℕ) where
  abbrev others : List Q → List Q
  others queries = filter (λ query. not (bytes_eq (name query) gone_name)) queries

  abbrev struck : List Moment → List Moment
  struck moments = filter (λ (moment : Moment). not (bytes_eq moment.query gone_name)) moments

  abbrev Struck : ℕ → List Q → Type 0
  Struck t queries = moments_of name (test t) (others queries) t ≡ struck (moments_of name (test t) queries t)

  -- its moments at an instant are struck
  struck_at : (t : ℕ) (queries : List Q) → Struck t queries
  struck_at t [] = refl
  struck_at t (query ∷ queries) =
      elim (test t query) as (λ passes. test t query ≡ passes → Struck t (query ∷ queries)) [
        | true ↦ λ passes.
            elim (bytes_eq (name query) gone_name) as (λ same. bytes_eq (name query) gone_name ≡ same → Struck t (query ∷ queries)) [
              | true ↦ λ same. rw (passes, same) (struck_at t queries)
              | false ↦ λ same. rw (same, passes, same)
                  (ap (λ ms. record { at = t; query = name query } ∷ ms) (struck_at t queries))
            ] refl
        | false ↦ λ passes.
            elim (bytes_eq (name query) gone_name) as (λ same. bytes_eq (name query) gone_name ≡ same → Struck t (query ∷ queries)) [
              | true ↦ λ same. rw (passes, same) (struck_at t queries)
              | false ↦ λ same. rw (same, passes) (struck_at t queries)
            ] refl
      ] refl

  -- at some instants
  abbrev moments_over : List Q → List ℕ → List Moment
  moments_over queries ts = flat_map (λ t. moments_of name (test t) queries t) ts

  struck_of : (queries : List Q) (ts : List ℕ) → moments_over (others queries) ts ≡ struck (moments_over queries ts)
  struck_of queries [] = refl
  struck_of queries (t ∷ ts) =
      ap (λ ms. ms ++ moments_over (others queries) ts) (struck_at t queries)
      ∙ (ap (λ ms. struck (moments_of name (test t) queries t) ++ ms) (struck_of queries ts)
      ∙ sym (filter-append (λ (moment : Moment). not (bytes_eq moment.query gone_name)) (moments_of name (test t) queries t)
      (moments_over queries ts)))

  -- those left without it are those left with its name struck
  pub gone : (queries rest : List Q) (last t i j : ℕ) → rest ≡ filter (λ query. not (bytes_eq (name query) gone_name)) queries
      → drop i rest ≡ filter (λ query. not (bytes_eq (name query) gone_name)) (drop j queries)
      → left_from name test rest last t i
      ≡ filter (λ (moment : Moment). not (bytes_eq moment.query gone_name)) (left_from name test queries last t j)
  gone queries rest last t i j all is =
      let later = range_with_len (t + 1) (last - t) in
      rw (is, all)
      (ap (λ ms. ms ++ moments_over (others queries) later) (struck_at t (drop j queries))
      ∙ (ap (λ ms. struck (moments_of name (test t) (drop j queries) t) ++ ms) (struck_of queries later)
      ∙ sym (filter-append (λ (moment : Moment). not (bytes_eq moment.query gone_name)) (moments_of name (test t) (drop j queries) t)
      (moments_over queries later))))
