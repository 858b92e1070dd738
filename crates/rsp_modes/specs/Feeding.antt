-- Words of the way: what is left of what recorded streams give.
use Rattle.std.specs.Prelude.{ℕ, ◌+◌, ◌-◌, List, [], ◌∷◌, ◌++◌, drop, length}
use Rattle.std.specs.List.{AllByRecursion, flat_map}
use Rattle.rsp_events.specs.Instants.{IsInstant}
use Rattle.rsp_events.specs.declared.event.Event.{Event}
use Rattle.rsp_modes.specs.declared.feed.Batch.{Batch}
use Rattle.rsp_modes.specs.declared.run.RefusedLines.{RefusedLines}
use Rattle.rsp_modes.specs.Feeds.{IsTimedBatch, given_in}
use Rattle.rsp_modes.specs.Output.{Given}
use Rattle.rsp_modes.specs.Replays.{lines_given}

abbrev pub files_given : List RefusedLines → List Given
files_given files = flat_map (λ (read : RefusedLines). lines_given read.file read.lines) files

-- behind so many lines of the first file
abbrev pub lines_left : ℕ → List RefusedLines → List Given
lines_left line [] = []
lines_left line (read ∷ files) = lines_given read.file (drop line read.lines) ++ files_given files

abbrev pub batches_given : List Batch → List Given
batches_given batches = flat_map given_in batches

abbrev pub run_left : List RefusedLines → ℕ → ℕ → List Batch → List Given
run_left files file line batches = lines_left line (drop file files) ++ batches_given batches

-- a turn gives a line, ends a file or gives a batch
abbrev pub run_turns : List RefusedLines → ℕ → ℕ → List Batch → ℕ
run_turns files file line batches =
    length (lines_left line (drop file files)) + (length files - file + length batches)

abbrev pub AreTimedBatches : List Batch → Type 0
AreTimedBatches batches = AllByRecursion IsTimedBatch batches

-- all items have a time that is an instant
abbrev pub AreTimed : List (List Event) → Type 0
AreTimed lists = AllByRecursion (λ events. AllByRecursion IsInstant events) lists
