-- Words of the way: what a reading call says of a row of tokens, unless memory ran out; the function on texts takes it on.
use Rattle.std.specs.Prelude.{⊤, List, Result, Ok, Err}
use Rattle.rsp_phrases.specs.Exact.{IsRead, IsFault}
use Rattle.rsp_phrases.specs.Languages.{Language}
use Rattle.rsp_written.specs.declared.reading.Halt.{Halt}
use Rattle.rsp_written.specs.declared.reading.Halt.TheVariants as halt
use Rattle.rsp_written.specs.declared.said.Said.{Said}

abbrev pub SaysFault : {A : Type 0} → Language Said A → List Said → Halt → Type 0
SaysFault rule ts halt.OutOfMemory = ⊤
SaysFault rule ts (halt.Wrong left) = IsFault rule ts left

-- the value that is read, and that no expansion goes on behind it; or the first token that can't stand
abbrev pub Says : {X A : Type 0} → (X → A × List Said) → Language Said A → List Said → Result X Halt → Type 0
Says view rule ts (Ok x) = IsRead rule ts (view x).0 (view x).1
Says view rule ts (Err e) = SaysFault rule ts e
