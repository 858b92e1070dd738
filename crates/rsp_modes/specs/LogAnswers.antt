-- Definitions: what each answer to a log says.
use Rattle.std.specs.Prelude.{◌≡◌, ℕ, ◌<◌, ◌≤◌, ◌++◌, Bool, true, false, IsTrue, List, length}
use Rattle.std.specs.Option.{IfSome}
use Rattle.std.specs.Io.KnownBytes.{IsAtEnd}
use Rattle.rsp_spec.specs.Faults.{Rose}
use Rattle.rsp_spec.specs.Limits.{most_log_bytes}
use Rattle.rsp_io.specs.Seen.{SinkSeen, SourceSeen}
use Rattle.rsp_modes.specs.declared.status.Status.{Status}
use Rattle.rsp_modes.specs.declared.status.Status.TheVariants.{Done, DoneWithRefusals, ReadFault, TooLong}
use Rattle.rsp_modes.specs.Output.{Start, log_said, output, whole_text}
use Rattle.rsp_modes.specs.Sources.{Took}
use Rattle.rsp_modes.specs.FileAnswers.{Told}
use Rattle.rsp_modes.specs.Sinks.{Wrote, WrotePart}

-- each answer to a log names the bytes that were taken from the source

abbrev pub is_done : Status → Bool
is_done Done = true
is_done DoneWithRefusals = true
is_done _ = false

-- the log was worked off: to its end, or until a write failed or memory was refused; on the way through what is
-- said of the bytes, and through what is said of the log; no read failed
pub record Works (start : Start) (before now : SourceSeen) (sink sink' : SinkSeen) (status : Status) : Type 0 where
  pub bytes : List ℕ
  pub took : Took before now bytes
  pub told : Told start.form (log_said start bytes) sink sink' status
  pub log : IfSome before.left (λ log. Told start.form (log_said start log) sink sink' status)
  pub at_end : IsTrue (is_done status) → IsAtEnd now.left
  pub short : length bytes ≤ most_log_bytes
  pub faultless : now.faults ≡ before.faults

-- a read failed, as those of a sure source don't: what was written is exactly what the blocks give that the bytes end,
-- which is how the output of the log begins
pub record ReadFails (start : Start) (before now : SourceSeen) (sink sink' : SinkSeen) : Type 0 where
  pub bytes : List ℕ
  pub took : Took before now bytes
  pub written : Wrote sink sink' (whole_text start bytes)
  pub log : IfSome before.left (λ log. WrotePart sink sink' (output start log))
  pub short : length bytes ≤ most_log_bytes
  pub rose : Rose before.faults now.faults
  pub unsure : before.sure ≡ false

-- more bytes were taken than the limit allows: what was written is exactly what the blocks give that the first so many bytes end
pub record PassesLimit (start : Start) (before now : SourceSeen) (sink sink' : SinkSeen) : Type 0 where
  pub bytes : List ℕ
  pub last : List ℕ
  pub took : Took before now (bytes ++ last)
  pub written : Wrote sink sink' (whole_text start bytes)
  pub log : IfSome before.left (λ log. WrotePart sink sink' (output start log))
  pub whole : length bytes ≡ most_log_bytes
  pub more : 0 < length last
  pub faultless : now.faults ≡ before.faults

-- on words that ask for the log
abbrev pub AnswersLog : Start → SourceSeen → SourceSeen → SinkSeen → SinkSeen → Status → Type 0
AnswersLog start before now sink sink' ReadFault = ReadFails start before now sink sink'
AnswersLog start before now sink sink' TooLong = PassesLimit start before now sink sink'
AnswersLog start before now sink sink' status = Works start before now sink sink' status
