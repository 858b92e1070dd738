-- What an engine's state says of the world for which it stands.
use Rattle.std.proofs.Common.{◌≡◌, ◌↔◌, ℕ, zero, suc, ◌||◌, bytes_eq, slice_get, Bool, true, false, List, [], ◌∷◌, length, Option, None, Some, not, refl, sym, ◌∙◌, ap, map}
use Rattle.std.specs.Option.{ForSome, is_some, option_map_or}
use Rattle.std.proofs.lemmas.List.{length-map}
use Rattle.std.proofs.lemmas.Simd.{map-map}
use Rattle.std.specs.List.{list_any}
use Rattle.std.specs.Prelude.{MatchOption}
use Rattle.rsp_terms.specs.declared.statement.Fact.{Fact}
use Rattle.rsp_engine.specs.declared.schedule.Pending.{Pending}
use Rattle.rsp_engine.specs.declared.live_query.LiveQuery.{LiveQuery}
use Rattle.rsp_engine.specs.World.{Query, World, registrations}
use Rattle.rsp_engine.specs.Accept.{has_name, is_live}
use Rattle.rsp_engine.specs.Inside.{fixed, live_of}
use Rattle.rsp_engine.specs.Left.{IsFirstLeft, IsWaiting, left_from}
use Rattle.rsp_engine.specs.Watching.{name_of}
use Rattle.rsp_engine.specs.Moments.{Moment}
use Rattle.rsp_engine.specs.Stands.{IsHead, Live, Stands, State, asked_in, left_at, left_in, next_in, registration_of, registrations_in, test_in}
use Rattle.rsp_engine.proofs.Left.{first_left_is, waiting_head, waiting_some, waits_at}
use Rattle.rsp_engine.proofs.Named.{get_map, same_name}

pub same_live : (e : State) (world : World) (name : List ℕ) → registrations_in e ≡ registrations world → is_live world name ≡ list_any (has_name name) (registrations_in e)
same_live e world name is = ap (list_any (has_name name)) (sym is)

-- so many queries
pub same_count : (e : State) (world : World) → registrations_in e ≡ registrations world → length world.queries ≡ length e.queries
same_count e world is =
    sym (length-map world.queries (λ (query : Query). query.registration)) ∙ (ap length (sym is) ∙ length-map e.queries registration_of)

-- the moments that are left at a place that is set
pub left_here : (e : State) (world : World) (left : List Moment) → Stands e world left → (place : Pending) → e.first ≡ Some place
    → left ≡ left_at e place
left_here e world left stands place is = stands.moments ∙ ap (λ first. option_map_or (left_at e) first []) is

-- ---- the first of the moments that are left

module _ (e : State) (left : List Moment) (moments : left ≡ left_in e) where
  -- it stands at a place that waits
  pub head_is : ForSome e.first (IsWaiting (test_in e) (asked_in e) (next_in e)) → ForSome e.first (IsHead e left)
  head_is waits place is =
      let waiting = waits place is in
      let first = waiting_head name_of (test_in e) (asked_in e) (next_in e) place waiting.query waiting waiting.listed in
      let whole : left ≡ left_at e place = moments ∙ ap (λ first. option_map_or (left_at e) first []) is in
      record { query = waiting.query; listed = waiting.listed; head = ap (λ ms. slice_get ms 0) (whole ∙ first) }

  -- none is left exactly where no place is set
  pub none_is : ForSome e.first (IsWaiting (test_in e) (asked_in e) (next_in e)) → (e.first ≡ None) ↔ (left ≡ [])
  none_is waits = (λ none. moments ∙ ap (λ first. option_map_or (left_at e) first []) none, by e.first refl)
    where
      by : (first : Option Pending) → e.first ≡ first → left ≡ [] → first ≡ None
      by None is nothing = refl
      by (Some place) is nothing =
          let whole : left ≡ left_at e place = moments ∙ ap (λ first. option_map_or (left_at e) first []) is in
          absurd (waiting_some name_of (test_in e) (asked_in e) (next_in e) place (waits place is) (sym whole ∙ nothing))

-- nothing is left exactly where no place is set
pub idle_left : (e : State) (world : World) (left : List Moment) (b : Bool) → is_some e.first ≡ not b → Stands e world left → (b ≡ true → left ≡ []) × (left ≡ [] → b ≡ true)
idle_left e world left b is stands = (λ none. stands.none.0 (unset e.first (is ∙ ap not none)), λ nothing. set b (sym is ∙ ap is_some (stands.none.1 nothing)))
  where
    unset : (first : Option Pending) → is_some first ≡ false → first ≡ None
    unset None none = refl
    unset (Some place) none = cc

    set : (b : Bool) → not b ≡ false → b ≡ true
    set true h = refl
    set false h = cc

-- an engine with other queries, by the same instants
module _ (old new : State) (next : new.next ≡ old.next) (arrived : new.arrived ≡ old.arrived) (t i : ℕ)
    (first : IsFirstLeft name_of (test_in old) (asked_in new) (next_in old) t i new.first) where
  pub left_renamed : left_in new ≡ left_from name_of (test_in old) (asked_in new) (next_in old) t i
  left_renamed = rw (next, arrived) (first_left_is name_of (test_in old) (asked_in new) (next_in old) t i new.first first)

  pub waits_renamed : ForSome new.first (IsWaiting (test_in new) (asked_in new) (next_in new))
  waits_renamed = rw (next, arrived) (waits_at name_of (test_in old) (asked_in new) (next_in old) t i new.first first)

-- ---- queries by name

or_true : (b : Bool) → (b || true) ≡ true
or_true true = refl
or_true false = refl

pub any_named : (lives : List Live) (place : ℕ) (live : Live) (name : List ℕ) → slice_get lives place ≡ Some live → live.name ≡ name → list_any (has_name name) (map registration_of lives) ≡ true
any_named [] place live name listed is = cc
any_named (l ∷ ls) zero live name listed is =
    let same : l ≡ live = cc in
    let found : bytes_eq l.name name ≡ true = rw (same, is) (same_name name) in
    rw found refl
any_named (l ∷ ls) (suc place) live name listed is = rw (any_named ls place live name listed is) (or_true (bytes_eq l.name name))

pub named_place : {A : Type 0} (facts : A → List Fact) (queries : List (LiveQuery A)) (name : List ℕ) (r : Option ℕ)
    → MatchOption r (list_any (has_name name) (map fixed queries) ≡ false) (λ place. (live : LiveQuery A) × (slice_get queries place ≡ Some live) × (live.name ≡ name))
    → MatchOption r (list_any (has_name name) (map registration_of (map (live_of facts) queries)) ≡ false)
    (λ place. (live : Live) × (slice_get (map (live_of facts) queries) place ≡ Some live) × (live.name ≡ name))
named_place facts queries name None free = rw (map-map registration_of (live_of facts) queries) free
named_place facts queries name (Some place) found = (live_of facts found.0, get_map (live_of facts) queries place found.0 found.1, found.2)
