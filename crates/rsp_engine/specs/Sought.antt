-- Words of the way: when a query is due next, and which of many first.
use Rattle.std.specs.Prelude.{◌≡◌, ℕ, ◌+◌, ◌<◌, ◌≤◌, true, nat_lt, if◌then◌else◌, min, Option, None, Some, List, slice_get, slice_index_or}
use Rattle.std.specs.Option.{option_map_or}
use Rattle.rsp_spec.specs.Instants.{IsLeastIn}
use Rattle.rsp_spec.specs.Limits.{last_instant}
use Rattle.rsp_engine.specs.declared.schedule.Pending.{Pending}
use Rattle.rsp_engine.specs.Watching.{Asked, is_due_by}

-- this is the least instant from `from` on at which the query is due, if there is one
abbrev pub IsDueNext : ℕ → Asked → Option ℕ → Type 0
IsDueNext from asked due = IsLeastIn (λ t. is_due_by asked t ≡ true) from last_instant due

-- the instant from which on the query of number i is still to be looked at, where no instant from `next` on is complete and all
-- before this place is worked off
abbrev pub look_behind : ℕ → Pending → ℕ → ℕ
look_behind next place i = min (if nat_lt i place.query then place.at + 1 else place.at) next

-- where this is the place of the first moment left, or none is left
abbrev pub look_of : ℕ → Option Pending → ℕ → ℕ
look_of next first i = option_map_or (λ (place : Pending). look_behind next place i) first next

-- the number of the first query that is left at `next` itself, from a place on
abbrev pub first_number : Pending → ℕ → ℕ
first_number from next = if nat_lt from.at next then 0 else from.query

-- the place of the query of this number, where it is due before the best so far, or below `next` where none is
abbrev pub sooner : Option Pending → Option ℕ → ℕ → ℕ → Option Pending
sooner best due query next =
    option_map_or
    (λ at.
    if nat_lt at (option_map_or (λ (place : Pending). place.at) best next)
    then Some (record { at = at; query = query })
    else best)
    due
    best

-- of the first `many` this one is due first below `next`, and before the others at its instant
pub record IsSoonestAt {X : Type 0} (due : X → Option ℕ) (xs : List X) (many next : ℕ) (place : Pending) : Type 0 where
  pub one : X
  pub listed : slice_get xs place.query ≡ Some one
  pub is_due : due one ≡ Some place.at
  pub within : place.query < many
  pub below : place.at < next
  pub least : (k n : ℕ) (d : X) → k < many → due (slice_index_or xs k d) ≡ Some n → place.at ≤ n
  pub first : (k n : ℕ) (d : X) → k < place.query → due (slice_index_or xs k d) ≡ Some n → place.at < n

-- or none is due below `next`
abbrev pub IsSoonest : {X : Type 0} → (X → Option ℕ) → List X → ℕ → ℕ → Option Pending → Type 0
IsSoonest {X} due xs many next None = (k n : ℕ) (d : X) → k < many → due (slice_index_or xs k d) ≡ Some n → next ≤ n
IsSoonest due xs many next (Some place) = IsSoonestAt due xs many next place
