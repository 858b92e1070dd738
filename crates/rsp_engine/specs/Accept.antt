-- Definitions: which events are accepted, and what an accepted event makes of the world.
use Rattle.std.specs.Prelude.{ℕ, ◌+◌, Bool, ◌&&◌, not, nat_lt, nat_le, if◌then◌else◌, Some, Result, Ok, Err, List, [], ◌∷◌, ◌++◌, length, filter, bytes_eq}
use Rattle.std.specs.List.{list_any}
use Rattle.rsp_spec.specs.Limits.{most_held, most_quads, most_queries, most_triples}
use Rattle.rsp_terms.specs.declared.statement.Fact.{Fact}
use Rattle.rsp_terms.specs.declared.statement.Quad.{Quad}
use Rattle.rsp_scope.specs.Quads.{stored_with, stored_without}
use Rattle.rsp_events.specs.declared.event.Event.{Event}
use Rattle.rsp_events.specs.declared.event.Event.TheVariants.{Register, Cancel, Item, Tick, Insert, Delete}
use Rattle.rsp_scope.specs.Contents.{Accepted}
use Rattle.rsp_query.specs.Queries.{Registered}
use Rattle.rsp_algebra.specs.Overfull.{overfull}
use Rattle.rsp_engine.specs.declared.refused.Refused.{Refused}
use Rattle.rsp_engine.specs.declared.refused.Refused.TheVariants.{Text, Late, NameTaken, NoQuery, QueriesFull, HeldFull, StoreFull, ItemTooLarge, SlackTuple, StartOverfull}
use Rattle.rsp_engine.specs.declared.refused.TextFault.{TextFault}
use Rattle.rsp_engine.specs.Refusals.{read}
use Rattle.rsp_engine.specs.Readings.{reading_of}
use Rattle.rsp_engine.specs.World.{World, Query, Reading, Registration, next_of, next_with, registrations}
use Rattle.rsp_engine.specs.Kept.{held}

abbrev pub has_name : List ℕ → Registration → Bool
has_name name query = bytes_eq query.name name

-- a live query has the name
abbrev pub is_live : World → List ℕ → Bool
is_live world name = list_any (has_name name) (registrations world)

-- the queries without the one of this name
abbrev pub without : List ℕ → List Query → List Query
without name queries = filter (λ (query : Query). not (has_name name query.registration)) queries

-- a query that has not reported
abbrev pub new_query : List ℕ → Reading → ℕ → Query
new_query name reading first =
    record { registration = record { name = name; reading = reading; first = first }; seen = []; preceding = [] }

-- a query that has too many rows over no facts can't begin
abbrev pub starts_overfull : Reading → Bool
starts_overfull reading = overfull reading.width reading.node []

-- a query that looks at items can't be asked under a slack, where they come in no order
abbrev pub has_slack_tuple : World → Reading → Bool
has_slack_tuple world reading = nat_lt 0 world.slack && reading.policy.tuple

-- the first refusal of these that holds, or else the answer
abbrev pub unless : List (Bool × Refused) → Result World Refused → Result World Refused
unless [] answer = answer
unless (check ∷ more) answer = if check.0 then Err check.1 else unless more answer

-- a query becomes live, last in order, unless it looks at items under a slack, so many are live, or it starts overfull; a text
-- with a fault is refused for it
abbrev pub accept_text : World → List ℕ → Result Registered TextFault → Result World Refused
accept_text world name (Ok q) =
    unless
    ((has_slack_tuple world (reading_of q), SlackTuple)
    ∷ (nat_le most_queries (length world.queries), QueriesFull)
    ∷ (starts_overfull (reading_of q), StartOverfull) ∷ [])
    (Ok (record world { queries = world.queries ++ new_query name (reading_of q) (length world.items) ∷ [] }))
accept_text world name (Err fault) = Err (Text fault)

-- an item is appended, and every instant that lies more than the slack behind its time is complete
abbrev pub with_item : World → Accepted → World
with_item world item = record world { next = Some (next_with world item.time); items = world.items ++ item ∷ [] }

-- unless it is late, or has too many triples, or more would be kept than can be
abbrev pub accept_item : World → Accepted → Result World Refused
accept_item world item =
    unless
    ((nat_lt item.time (next_of world), Late item.time (next_of world))
    ∷ (nat_lt most_triples (length item.graph), ItemTooLarge (length item.graph))
    ∷ (nat_lt most_held (held (with_item world item)), HeldFull (held (with_item world item))) ∷ [])
    (Ok (with_item world item))

-- these quads are stored, unless they are too many
abbrev pub accept_stored : World → List Fact → Result World Refused
accept_stored world stored =
    unless ((nat_lt most_quads (length stored), StoreFull (length stored)) ∷ []) (Ok (record world { stored = stored }))

-- the first refusal that holds, or the new world: a name is looked up before the text is read; a cancelled query is no longer
-- live; every instant up to a tick's is complete; inserted quads that aren't stored become stored, deleted ones are no longer
abbrev pub accept : World → Event → Result World Refused
accept world (Register name text) = unless ((is_live world name, NameTaken) ∷ []) (accept_text world name (read text))
accept world (Cancel name) =
    unless ((not (is_live world name), NoQuery) ∷ []) (Ok (record world { queries = without name world.queries }))
accept world (Item stream time graph) = accept_item world (record { stream = stream; time = time; graph = graph })
accept world (Tick time) =
    unless ((nat_lt (time + 1) (next_of world), Late time (next_of world)) ∷ []) (Ok (record world { next = Some (time + 1) }))
accept world (Insert quads) = accept_stored world (stored_with world.stored quads)
accept world (Delete quads) = Ok (record world { stored = stored_without world.stored quads })
