-- Words of the way: the windows by which live queries keep items.
use Rattle.std.specs.Prelude.{◌≡◌, ℕ, ◌+◌, ◌-◌, ◌^◌, ◌≤◌, ◌+ℤ◌, true, nat_lt, if◌then◌else◌, min, Option, None, Some, List, [], map}
use Rattle.std.specs.List.{All, flat_map}
use Rattle.rsp_spec.specs.Limits.{most_held}
use Rattle.rsp_terms.specs.declared.statement.Fact.{Fact}
use Rattle.rsp_terms.specs.Same.{fact_eq}
use Rattle.rsp_multiset.specs.Weights.{times}
use Rattle.rsp_scope.specs.Contents.{Accepted, Numbered, Watch}
use Rattle.rsp_scope.specs.Kept.{Kept, needed, triples_of}
use Rattle.rsp_scope.specs.Logged.{since}
use Rattle.rsp_scope.specs.Moves.{Followed, HasSeen}
use Rattle.rsp_scope.specs.Needed.{is_needed}
use Rattle.rsp_scope.specs.declared.item.Item.{Item}
use Rattle.rsp_scope.specs.Logged.{Log}
use Rattle.rsp_engine.specs.declared.retention.Arrival.{Arrival}
use Rattle.rsp_engine.specs.declared.live_query.LiveQuery.{LiveQuery}

abbrev pub watches_followed : List Followed → List Watch
watches_followed contents = map (λ (seen : Followed). seen.watch) contents

abbrev pub watches_by : {A : Type 0} → List (LiveQuery A) → List Watch
watches_by queries = flat_map (λ live. watches_followed live.contents.items) queries

-- the windows need the item at no instant behind `most`
abbrev pub EndsBy : List Watch → Numbered → ℕ → Type 0
EndsBy watches entry most = (n : ℕ) → is_needed n watches entry ≡ true → n ≤ most

-- a window that hasn't moved to an instant
pub record IsUnmoved (window : Followed) : Type 0 where
  pub at : window.at ≡ None
  pub seen : HasSeen window []

-- an item as it is accepted
abbrev pub accepted_of : Arrival → Accepted
accepted_of arrival = record { stream = arrival.stream; time = arrival.time; graph = arrival.graph }

-- how many triples would be kept from an instant on with so many more, as a 64-bit number, where that is more than can be
abbrev pub excess : Kept → ℕ → ℕ → Option ℕ
excess kept time triples =
    if nat_lt most_held (triples_of (needed time kept.items) + triples)
    then Some (min (triples_of (needed time kept.items) + triples) (2 ^ 64 - 1))
    else None

-- as many were accepted, and of those that are kept none is later
pub record IsLess (old new : Kept) : Type 0 where
  pub accepted : new.accepted ≡ old.accepted
  pub timed : (high : ℕ) → All (λ (item : Item). item.time ≤ high) old.items → All (λ (item : Item). item.time ≤ high) new.items

-- what came to and went from the stored quads is logged for a query that has reported
abbrev pub IsLogged : {A : Type 0} → List Fact → Log → List Fact → Log → LiveQuery A → Type 0
IsLogged stored log stored_now log_now live = live.reported ≡ true
    → (q : Fact) → since log_now live.place q +ℤ times fact_eq stored q ≡ since log live.place q +ℤ times fact_eq stored_now q
