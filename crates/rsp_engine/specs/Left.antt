-- Words of the way: the moments that are left from a place on: an instant, and a query by its place in the order of registration.
use Rattle.std.specs.Prelude.{◌≡◌, ℕ, ◌+◌, ◌-◌, ◌≤◌, Bool, true, false, nat_lt, if◌then◌else◌, Option, None, Some, List, [], ◌++◌, drop, filter, map, slice_get}
use Rattle.std.specs.List.{flat_map, range_with_len}
use Rattle.std.specs.Option.{option_map_or}
use Rattle.rsp_scope.specs.Contents.{Accepted}
use Rattle.rsp_engine.specs.declared.schedule.Pending.{Pending}
use Rattle.rsp_engine.specs.World.{Registration}
use Rattle.rsp_engine.specs.Due.{is_due}
use Rattle.rsp_engine.specs.Seeing.{is_due_over}
use Rattle.rsp_engine.specs.Moments.{Moment}

-- whether a query reports at t: below `next` by the instant, at `next` itself by an item that just arrived over this stream
abbrev pub reports_at : List Accepted → ℕ → Option (List ℕ) → ℕ → Registration → Bool
reports_at items next arrived t query =
    if nat_lt t next
    then is_due items query t
    else option_map_or (λ stream. is_due_over items query stream next) arrived false

-- the name under which a query was registered
abbrev pub name_in : Registration → List ℕ
name_in query = query.name

-- the moments at t of the queries that pass, each under its name
abbrev pub moments_of : {Q : Type 0} → (Q → List ℕ) → (Q → Bool) → List Q → ℕ → List Moment
moments_of name test queries t = map (λ query. record { at = t; query = name query }) (filter test queries)

-- the moments at t of the queries from i on, then those of all at each later instant, up to `last`
abbrev pub left_from : {Q : Type 0} → (Q → List ℕ) → (ℕ → Q → Bool) → List Q → ℕ → ℕ → ℕ → List Moment
left_from name test queries last t i =
    moments_of name (test t) (drop i queries) t
    ++ flat_map (λ later. moments_of name (test later) queries later) (range_with_len (t + 1) (last - t))

-- a query reports at this place, up to `last`
pub record IsWaiting {Q : Type 0} (test : ℕ → Q → Bool) (queries : List Q) (last : ℕ) (place : Pending) : Type 0 where
  pub within : place.at ≤ last
  pub query : Q
  pub listed : slice_get queries place.query ≡ Some query
  pub reports : test place.at query ≡ true

-- the first place from (t, i) on at which a query reports, up to `last`
abbrev pub IsFirstLeft : {Q : Type 0} → (Q → List ℕ) → (ℕ → Q → Bool) → List Q → ℕ → ℕ → ℕ → Option Pending → Type 0
IsFirstLeft name test queries last t i None = left_from name test queries last t i ≡ []
IsFirstLeft name test queries last t i (Some place) =
    IsWaiting test queries last place
    × (t ≤ place.at)
    × (place.at ≡ t → i ≤ place.query)
    × (left_from name test queries last t i ≡ left_from name test queries last place.at place.query)

-- the first query from number i on that passes
abbrev pub IsFirstAt : {Q : Type 0} → (Q → Bool) → List Q → ℕ → Option ℕ → Type 0
IsFirstAt test queries i None = filter test (drop i queries) ≡ []
IsFirstAt {Q} test queries i (Some k) =
    (i ≤ k)
    × ((query : Q) × (slice_get queries k ≡ Some query) × (test query ≡ true))
    × (filter test (drop i queries) ≡ filter test (drop k queries))
