-- Definitions: what was taken from a source, by what contracts see of the source before and now.
use Rattle.std.specs.Prelude.{◌≡◌, ℕ, ◌+◌, ◌-◌, ◌^◌, ◌<◌, List, length}
use Rattle.std.specs.Io.KnownBytes.{Consumes}
use Rattle.rsp_io.specs.Seen.{SourceSeen}

-- these bytes were taken: those left before are these and what is left now, and so many more were given, as long as
-- their number isn't at its type's end
pub record Took (before now : SourceSeen) (bytes : List ℕ) : Type 0 where
  pub left : Consumes before.left now.left bytes
  pub given : now.given < 2 ^ 64 - 1 → now.given ≡ before.given + length bytes
