-- Definitions: how many steps an answer of the call may take: the work of all reports of what was given.
use Rattle.std.specs.Prelude.{ℕ, ◌+◌, ◌≤◌, Option, Some, map}
use Rattle.rsp_io.specs.Seen.{SourceSeen}
use Rattle.rsp_spec.specs.Limits.{most_file_bytes}
use Rattle.rsp_engine.specs.World.{empty_world}
use Rattle.rsp_words.specs.Words.{Mode, events, generate, names_of, run as replays}
use Rattle.rsp_modes.specs.Costs.{CostsFiles, CostsLog, work_of}
use Rattle.rsp_modes.specs.Generator.{generated}
use Rattle.rsp_modes.specs.Output.{a_block}
use Rattle.rsp_modes.specs.Replays.{given_of}
use Rattle.rsp_modes.specs.Shelves.{ShelfSeen}
use Rattle.rsp_modes.specs.Summaries.{numbered}

-- by what the words ask for; a check and the usage line take none
abbrev pub Costs : Option Mode → SourceSeen → SourceSeen → ShelfSeen → ShelfSeen → ℕ → ℕ → Type 0
Costs (Some (events log)) before now shelf shelf' steps steps' =
    CostsLog (empty_world log.slack) 1 before now steps steps'
Costs (Some (replays replay)) before now shelf shelf' steps steps' =
    CostsFiles most_file_bytes (names_of replay) (given_of replay) shelf shelf' steps steps'
Costs (Some (generate count)) before now shelf shelf' steps steps' =
    steps' ≤ steps + work_of (empty_world 0) (map a_block (numbered 1 (generated count)))
Costs _ before now shelf shelf' steps steps' = steps' ≤ steps
