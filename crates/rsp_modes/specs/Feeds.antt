-- Words of the way: what a feed gives, and how the work ends that it is driven through.
use Rattle.std.specs.Prelude.{◌≡◌, ℕ, ◌+◌, ◌≤◌, Bool, Option, None, Some, Result, Ok, Err, OnOk, List, [], ◌∷◌, ◌++◌, ⊤, map}
use Rattle.std.specs.Prelude.{option_map, option_to_list}
use Rattle.std.specs.List.{list_any}
use Rattle.rsp_events.specs.Instants.{AllTimed, IsTimed}
use Rattle.rsp_engine.specs.Stands.{State, Stands}
use Rattle.rsp_engine.specs.World.{World}
use Rattle.rsp_io.specs.Seen.{SinkSeen}
use Rattle.rsp_modes.specs.declared.feed.Batch.{Batch}
use Rattle.rsp_modes.specs.declared.feed.Batch.TheVariants as batch
use Rattle.rsp_modes.specs.declared.feed.Cut.{Cut}
use Rattle.rsp_modes.specs.declared.feed.Cut.TheVariants as cut
use Rattle.rsp_modes.specs.declared.drive.Halt.{Halt}
use Rattle.rsp_modes.specs.declared.drive.Halt.TheVariants as halt
use Rattle.rsp_modes.specs.declared.refusals.Place.{Place}
use Rattle.rsp_modes.specs.declared.status.Status.{Status}
use Rattle.rsp_modes.specs.declared.stop.Stop.{Stop}
use Rattle.rsp_modes.specs.declared.stop.Stop.TheVariants.{Memory}
use Rattle.rsp_modes.specs.declared.status.Status.TheVariants as status
use Rattle.rsp_modes.specs.declared.voice.Voice.{Voice}
use Rattle.rsp_modes.specs.Output.{Given, Saying, a_block, a_refused, is_refusal, run}
use Rattle.rsp_modes.specs.Reasons.{reason_of}
use Rattle.rsp_modes.specs.Refusals.{Reason}
use Rattle.rsp_modes.specs.Stops.{status_of}
use Rattle.rsp_modes.specs.Voices.{Said, StopsSaying}

-- ---- a batch

-- want of memory is no refusal
abbrev pub given_refused : Place → Option Reason → List Given
given_refused place reason = option_to_list (option_map (a_refused place) reason)

abbrev pub given_in : Batch → List Given
given_in (batch.Blocks blocks) = map a_block blocks
given_in (batch.Block block) = a_block block ∷ []
given_in (batch.Refused place answered) = given_refused place (reason_of answered)

abbrev pub IsTimedBatch : Batch → Type 0
IsTimedBatch (batch.Blocks blocks) = AllTimed blocks
IsTimedBatch (batch.Block block) = IsTimed block.content
IsTimedBatch (batch.Refused place answered) = ⊤

-- ---- a turn of a feed

-- where it gave nothing, the feed is at its end, or was cut
abbrev pub EndsSo : (Option Cut → Type 0) → Result (Option Batch) Cut → Type 0
EndsSo Ended (Ok None) = Ended None
EndsSo Ended (Ok (Some more)) = ⊤
EndsSo Ended (Err why) = Ended (Some why)

-- this was given of what was left, where it is told
abbrev pub Takes : Option (List Given) → Option (List Given) → List Given → Type 0
Takes None after given = ⊤
Takes (Some left) None given = ⊥
Takes (Some left) (Some rest) given = left ≡ given ++ rest

-- nothing is left, where it is told
abbrev pub IsNothing : Option (List Given) → Type 0
IsNothing None = ⊤
IsNothing (Some left) = left ≡ []

abbrev pub TakesFrom : Option (List Given) → Option (List Given) → Result (Option Batch) Cut → Type 0
TakesFrom left after (Ok None) = Takes left after [] × IsNothing after
TakesFrom left after (Ok (Some more)) = Takes left after (given_in more)
TakesFrom left after (Err why) = Takes left after []

-- memory alone cuts it
abbrev pub LacksMemory : Option Cut → Type 0
LacksMemory (Some cut.Failed) = ⊥
LacksMemory (Some cut.TooLong) = ⊥
LacksMemory _ = ⊤

-- ---- all turns

-- all was given until the end or the cut, or the work stopped behind what was given
abbrev pub Came : (List Given → Type 0) → (List Given → Option Cut → Type 0) → List Given → Result Bool Halt → Type 0
Came Gave Ended all (Ok refused) = Ended all None
Came Gave Ended all (Err (halt.Cut why)) = Ended all (Some why)
Came Gave Ended all (Err (halt.Stop why)) = Gave all

-- it was said, and it is known whether something of it is a refusal; or the work stopped on the way
abbrev pub SaysAll : Voice → Voice → SinkSeen → SinkSeen → List Saying → Result Bool Halt → Type 0
SaysAll voice after sink sink' said (Ok refused) =
    Said voice after sink sink' said × (refused ≡ list_any is_refusal said)
SaysAll voice after sink sink' said (Err (halt.Cut why)) = Said voice after sink sink' said
SaysAll voice after sink sink' said (Err (halt.Stop why)) = StopsSaying why voice after sink sink' said

-- what a feed gave was worked off
pub record Drove (Gave : List Given → Type 0) (Ended : List Given → Option Cut → Type 0) (left left' : Option (List Given))
    (before : List Given) (engine engine' : State) (voice voice' : Voice) (sink sink' : SinkSeen) (result : Result Bool Halt)
    : Type 0 where
  pub given : List Given
  pub came : Came Gave Ended (before ++ given) result
  pub taken : Takes left left' given
  pub said : (world : World) → Stands engine world [] → SaysAll voice voice' sink sink' (run world given).said result
  pub stands : OnOk result ((world : World) → Stands engine world [] → Stands engine' (run world given).after [])

-- what a feed gave was worked off, within the steps that its reports may take
pub record Spends (Gave : List Given → Type 0) (Ended : List Given → Option Cut → Type 0) (left left' : Option (List Given))
    (before : List Given) (engine : State) (steps steps' : ℕ) (result : Result Bool Halt) : Type 0 where
  pub given : List Given
  pub came : Came Gave Ended (before ++ given) result
  pub taken : Takes left left' given
  pub within : (world : World) → Stands engine world [] → steps' ≤ steps + (run world given).work

-- how it ended that want of memory alone cuts
abbrev pub stop_of : Result Bool Halt → Result Bool Stop
stop_of (Ok refused) = Ok refused
stop_of (Err (halt.Stop why)) = Err why
stop_of (Err (halt.Cut why)) = Err Memory

-- how the work ended, as a status
abbrev pub status_of_drive : Result Bool Halt → Status
status_of_drive (Ok refused) = status_of (Ok refused)
status_of_drive (Err (halt.Stop why)) = status_of (Err why)
status_of_drive (Err (halt.Cut cut.Failed)) = status.ReadFault
status_of_drive (Err (halt.Cut cut.TooLong)) = status.TooLong
status_of_drive (Err (halt.Cut cut.Memory)) = status.OutOfMemory
