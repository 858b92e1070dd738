-- Definitions: what was written of a text to a sink, by what contracts see of the sink before and now.
use Rattle.std.specs.Prelude.{◌≡◌, ℕ, ◌<◌, List, length}
use Rattle.std.specs.Option.{IfSome}
use Rattle.std.specs.Io.KnownBytes.{Appends}
use Rattle.rsp_spec.specs.Faults.{Rose}
use Rattle.rsp_spec.specs.Written.{AppendsPart}
use Rattle.rsp_io.specs.Seen.{SinkSeen}
use Rattle.rsp_io.specs.Writing.{Lowers}

-- the text was written, whole, and no write failed
pub record Wrote (before now : SinkSeen) (text : List ℕ) : Type 0 where
  pub appended : Appends before.taken now.taken text
  pub lowered : Lowers before.room now.room (length text)
  pub faultless : now.faults ≡ before.faults

-- the text was written as far as some place, and no write failed
pub record WrotePart (before now : SinkSeen) (text : List ℕ) : Type 0 where
  pub part : AppendsPart before.taken now.taken text
  pub faultless : now.faults ≡ before.faults

-- a write failed on the way: room that is told was too little for the text
pub record WriteFailed (before now : SinkSeen) (text : List ℕ) : Type 0 where
  pub part : AppendsPart before.taken now.taken text
  pub full : IfSome before.room (λ room. room < length text)
  pub rose : Rose before.faults now.faults
