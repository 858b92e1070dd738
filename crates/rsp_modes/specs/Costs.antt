-- Definitions: how many steps a mode may take: the work of all reports of what was given.
use Rattle.std.specs.Prelude.{◌⊎◌, ℕ, ◌+◌, ◌≤◌, List, map}
use Rattle.std.specs.Option.{IfSome}
use Rattle.rsp_io.specs.Seen.{SourceSeen}
use Rattle.rsp_events.specs.Blocks.{blocks}
use Rattle.rsp_engine.specs.World.{World, empty_world}
use Rattle.rsp_modes.specs.Output.{Given, a_block, run}
use Rattle.rsp_modes.specs.Shelves.{ReadsAll, ShelfSeen}
use Rattle.rsp_modes.specs.Sources.{Took}

abbrev pub work_of : World → List Given → ℕ
work_of world given = (run world given).work

-- the bytes that were taken of a log, from this world on, as the document of this number; and the whole log, so that a block
-- which a cut ends is counted only as the log has it
pub record CostsLog (world : World) (document : ℕ) (before now : SourceSeen) (steps steps' : ℕ) : Type 0 where
  pub bytes : List ℕ
  pub took : Took before now bytes
  pub within : steps' ≤ steps + work_of world (map a_block (blocks document bytes))
  pub log : IfSome before.left (λ log. steps' ≤ steps + work_of world (map a_block (blocks document log)))

-- the files that were read; none where one of them wasn't
abbrev pub CostsFiles : ℕ → List (List ℕ) → (List (List ℕ) → List Given) → ShelfSeen → ShelfSeen → ℕ → ℕ → Type 0
CostsFiles most names given before now steps steps' =
    ((files : List (List ℕ)) × ReadsAll most before now names files × (steps' ≤ steps + work_of (empty_world 0) (given files)))
    ⊎ (steps' ≤ steps)
