-- Definitions: what is said of the generator's events.
use Rattle.std.specs.Prelude.{ℕ, Bool, true, false, List, [], ◌∷◌, count_by, length, map, sum_by}
use Rattle.std.specs.List.{enumerate_from}
use Rattle.rsp_events.specs.declared.event.Event as events
use Rattle.rsp_events.specs.declared.event.Block.{Block}
use Rattle.rsp_events.specs.declared.event.Content.TheVariants.{Event}
use Rattle.rsp_engine.specs.declared.report.Outcome.{Outcome}
use Rattle.rsp_engine.specs.declared.report.Outcome.TheVariants.{Rows, Overfull}
use Rattle.rsp_engine.specs.World.{empty_world}
use Rattle.rsp_modes.specs.Generator.{generated}
use Rattle.rsp_modes.specs.Output.{Saying, a_block, a_report, a_summary, run}

-- an event as the block of a log of this number; and events as blocks, numbered from this on
abbrev pub event_block : ℕ × events.Event → Block
event_block event = record { number = event.0; content = Event event.1 }

abbrev pub numbered : ℕ → List events.Event → List Block
numbered number events = map event_block (enumerate_from number events)

-- an overfull report has no rows
abbrev pub rows_in : Outcome → ℕ
rows_in (Rows rows) = length rows
rows_in Overfull = 0

abbrev pub is_report : Saying → Bool
is_report (a_report report) = true
is_report _ = false

abbrev pub rows_said : Saying → ℕ
rows_said (a_report report) = rows_in report.outcome
rows_said _ = 0

abbrev pub summary : ℕ → List Saying → Saying
summary count said = a_summary count (count_by is_report said) (sum_by rows_said said)

-- what the events say, from the empty world
unfoldable pub said_of : ℕ → List Saying
said_of count = (run (empty_world 0) (map a_block (numbered 1 (generated count)))).said

-- no file is read
abbrev pub counted : ℕ → List (List ℕ) → List Saying
counted count [] = summary count (said_of count) ∷ []
counted count _ = []
