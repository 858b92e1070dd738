-- Definitions: the bounds within which every world is.
use Rattle.std.specs.Prelude.{◌≡◌, ◌+◌, ◌<◌, ◌≤◌, false, List, length, map, bytes_eq}
use Rattle.std.specs.List.{All, IsDistinct}
use Rattle.std.specs.List.Sorted.{IsNonDecreasingBy}
use Rattle.rsp_scope.specs.Contents.{Accepted}
use Rattle.rsp_engine.specs.World.{World, Query, next_of}
use Rattle.rsp_spec.specs.Limits.{most_held, most_quads, most_queries}
use Rattle.rsp_engine.specs.Kept.{held}

-- live queries have distinct names and are no more than can be live, nor is more stored or kept than can be; no item lies further
-- after `next` than the slack; without a slack items' times don't fall, and under one no live query looks at items
pub record IsWorld (world : World) : Type 0 where
  pub names : IsDistinct bytes_eq (map (λ (query : Query). query.registration.name) world.queries)
  pub live : length world.queries ≤ most_queries
  pub quads : length world.stored ≤ most_quads
  pub few : held world ≤ most_held
  pub timed : All (λ (item : Accepted). item.time ≤ next_of world + world.slack) world.items
  pub order : world.slack ≡ 0 → IsNonDecreasingBy (λ (item : Accepted). item.time) world.items
  pub instants : 0 < world.slack → All (λ (query : Query). query.registration.reading.policy.tuple ≡ false) world.queries
