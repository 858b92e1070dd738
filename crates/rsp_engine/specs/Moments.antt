-- Definitions: the moments of an event: which queries report at which instants, in order.
use Rattle.std.specs.Prelude.{ℕ, ◌-◌, Bool, List, [], ◌++◌, filter, map}
use Rattle.std.specs.List.{flat_map, range_with_len}
use Rattle.std.specs.Option.{option_map_or}
use Rattle.rsp_events.specs.declared.event.Event.{Event}
use Rattle.rsp_events.specs.declared.event.Event.TheVariants.{Item}
use Rattle.rsp_engine.specs.World.{World, Registration, registrations}
use Rattle.rsp_engine.specs.Due.{is_due, is_due_on}

-- the query of this name reports at this instant
pub record Moment : Type 0 where
  pub at : ℕ
  pub query : List ℕ

-- those of the queries that pass the test report at t, in order of registration
abbrev pub moments_at : (Registration → Bool) → List Registration → ℕ → List Moment
moments_at test queries t =
    map (λ (query : Registration). record { at = t; query = query.name }) (filter test queries)

-- at a complete instant the queries that are due
abbrev pub due_moments : World → ℕ → List Moment
due_moments world t = moments_at (λ query. is_due world.items query t) (registrations world) t

-- the moments of the complete instants from `from` on
abbrev pub moments_from : World → ℕ → List Moment
moments_from world from =
    option_map_or (λ next. flat_map (due_moments world) (range_with_len from (next - from))) world.next []

-- the moments on the item that an event is
abbrev pub moments_on : World → Event → List Moment
moments_on world (Item stream time graph) =
    moments_at
    (λ query. is_due_on world.items query (record { stream = stream; time = time; graph = graph }))
    (registrations world)
    time
moments_on world _ = []

-- the moments of an event that led from the old world to the new one: first every instant that it made complete, then
-- its item; all is read in the new world
abbrev pub moments : World → Event → World → List Moment
moments old event new =
    option_map_or (λ from. moments_from new from) old.next [] ++ moments_on new event
