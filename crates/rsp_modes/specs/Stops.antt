-- Words of the way: how the writing of a text ends.
use Rattle.std.specs.Prelude.{◌≡◌, ℕ, Bool, true, false, Option, Some, None, Result, Ok, Err, MatchResult, List, ⊤}
use Rattle.rsp_io.specs.Seen.{SinkSeen}
use Rattle.rsp_modes.specs.declared.status.Status.{Status}
use Rattle.rsp_modes.specs.declared.status.Status.TheVariants.{Done, DoneWithRefusals, WriteFault, OutOfMemory}
use Rattle.rsp_modes.specs.declared.stop.Stop.{Stop}
use Rattle.rsp_modes.specs.declared.stop.Stop.TheVariants.{Memory, Write}
use Rattle.rsp_modes.specs.declared.refusals.Place.{Place}
use Rattle.rsp_modes.specs.Sinks.{Wrote, WrotePart, WriteFailed}
use Rattle.rsp_modes.specs.Refusals.{Reason, refusal_line}

abbrev pub Stops : SinkSeen → SinkSeen → List ℕ → Stop → Type 0
Stops before now text Memory = WrotePart before now text
Stops before now text Write = WriteFailed before now text

-- the text was written, or the call stopped on the way
abbrev pub Ends : {T : Type 0} → SinkSeen → SinkSeen → List ℕ → Result T Stop → Type 0
Ends before now text result = MatchResult result (λ _. Wrote before now text) (λ why. Stops before now text why)

-- the text is the line of a reason; any text is that of none
abbrev pub IsLineOf : Place → Option Reason → List ℕ → Type 0
IsLineOf place None text = ⊤
IsLineOf place (Some reason) text = text ≡ refusal_line place reason

-- the status of a log whose work ended so
abbrev pub status_of : Result Bool Stop → Status
status_of (Ok false) = Done
status_of (Ok true) = DoneWithRefusals
status_of (Err Memory) = OutOfMemory
status_of (Err Write) = WriteFault

-- nothing was written where memory was refused
abbrev pub StaysAt : Stop → SinkSeen → SinkSeen → Type 0
StaysAt Memory before now = now ≡ before
StaysAt Write before now = ⊤

abbrev pub Stays : {T : Type 0} → SinkSeen → SinkSeen → Result T Stop → Type 0
Stays before now result = MatchResult result (λ _. ⊤) (λ why. StaysAt why before now)
