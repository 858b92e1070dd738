-- Definitions: the items that are still needed: these alone are kept.
use Rattle.std.specs.Prelude.{ℕ, List}
use Rattle.std.specs.List.{flat_map}
use Rattle.rsp_scope.specs.Contents.{Numbered, Watch}
use Rattle.rsp_scope.specs.Needed.{needed_items, listed_triples}
use Rattle.rsp_engine.specs.Contents.{watches}
use Rattle.rsp_engine.specs.World.{Registration, World, next_of, registrations}

-- the windows of live queries
abbrev pub watches_of : List Registration → List Watch
watches_of queries = flat_map (λ (query : Registration). watches query.first query.reading.windows) queries

-- the accepted items that a window of some live query contains that closes at `next` or later
abbrev pub kept_items : World → List Numbered
kept_items world = needed_items (next_of world) (watches_of (registrations world)) world.items

-- their triples, as listed
abbrev pub held : World → ℕ
held world = listed_triples (kept_items world)
