-- Definitions: what each answer of the call says.
use Rattle.std.specs.Prelude.{◌≡◌, Bool, true, false, Option, Some, None, [], ◌∷◌}
use Rattle.rsp_spec.specs.Limits.{most_file_bytes}
use Rattle.rsp_io.specs.Seen.{SinkSeen, SourceSeen}
use Rattle.rsp_words.specs.declared.form.Form.TheVariants.{Table}
use Rattle.rsp_words.specs.Words.{Mode, events, run, check, generate, names_of}
use Rattle.rsp_modes.specs.declared.status.Status.{Status}
use Rattle.rsp_modes.specs.declared.status.Status.TheVariants.{Usage, WriteFault}
use Rattle.rsp_modes.specs.LogAnswers.{AnswersLog}
use Rattle.rsp_modes.specs.FileAnswers.{AnswersFiles}
use Rattle.rsp_modes.specs.Output.{start_of, usage_text}
use Rattle.rsp_modes.specs.Shelves.{ShelfSeen}
use Rattle.rsp_modes.specs.Checks.{checked}
use Rattle.rsp_modes.specs.Summaries.{counted}
use Rattle.rsp_modes.specs.Replays.{replayed}
use Rattle.rsp_modes.specs.Sinks.{Wrote, WriteFailed}

-- on words that ask for nothing: the usage line, and no answer but that it was written, whole or not
abbrev pub AnswersUsage : SinkSeen → SinkSeen → Status → Type 0
AnswersUsage sink sink' Usage = Wrote sink sink' usage_text
AnswersUsage sink sink' WriteFault = WriteFailed sink sink' usage_text
AnswersUsage sink sink' _ = ⊥

-- by what the words ask for; a check and the generator say no report
abbrev pub Answers : Option Mode → SourceSeen → SourceSeen → ShelfSeen → ShelfSeen → SinkSeen → SinkSeen → Status → Type 0
Answers (Some (events log)) before now shelf shelf' sink sink' status =
    AnswersLog (start_of log) before now sink sink' status
Answers (Some (run replay)) before now shelf shelf' sink sink' status =
    AnswersFiles most_file_bytes replay.form (names_of replay) (replayed replay) shelf shelf' sink sink' status
Answers (Some (check query)) before now shelf shelf' sink sink' status =
    AnswersFiles most_file_bytes Table (query ∷ []) checked shelf shelf' sink sink' status
Answers (Some (generate count)) before now shelf shelf' sink sink' status =
    AnswersFiles most_file_bytes Table [] (counted count) shelf shelf' sink sink' status
Answers None before now shelf shelf' sink sink' status = AnswersUsage sink sink' status × (now ≡ before)

-- the log alone is read from the source
abbrev pub reads_source : Option Mode → Bool
reads_source (Some (events log)) = true
reads_source _ = false

-- and files alone from the shelf
abbrev pub reads_shelf : Option Mode → Bool
reads_shelf (Some (run replay)) = true
reads_shelf (Some (check query)) = true
reads_shelf _ = false
