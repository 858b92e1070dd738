-- Words of the way: how what is said is told: written in a form, or counted.
use Rattle.std.specs.Prelude.{◌≡◌, Bool, Option, Result, Ok, Err, MatchResult, List, ◌++◌, option_map, option_to_list}
use Rattle.std.specs.List.{list_any}
use Rattle.rsp_io.specs.Seen.{SinkSeen}
use Rattle.rsp_modes.specs.declared.refusals.Place.{Place}
use Rattle.rsp_modes.specs.declared.stop.Stop.{Stop}
use Rattle.rsp_modes.specs.declared.stop.Stop.TheVariants.{Memory, Write}
use Rattle.rsp_modes.specs.declared.voice.Voice.{Voice}
use Rattle.rsp_modes.specs.declared.voice.Voice.TheVariants.{Writes, Counts}
use Rattle.rsp_modes.specs.Output.{Saying, a_refusal, is_refusal, text_of}
use Rattle.rsp_modes.specs.Refusals.{Reason}
use Rattle.rsp_modes.specs.Sinks.{Wrote, WriteFailed}
use Rattle.rsp_modes.specs.Tallies as tallies

-- all was said: a counting voice writes nothing
abbrev pub Said : Voice → Voice → SinkSeen → SinkSeen → List Saying → Type 0
Said (Writes form) (Writes after) sink sink' said = (after ≡ form) × Wrote sink sink' (text_of form said)
Said (Counts tally) (Counts after) sink sink' said = (sink' ≡ sink) × tallies.Counts tally after said
Said _ _ sink sink' said = ⊥

-- a front of it was said, each saying whole
pub record SaidFront (voice after : Voice) (sink sink' : SinkSeen) (said : List Saying) : Type 0 where
  pub front : List Saying
  pub rest : List Saying
  pub whole : said ≡ front ++ rest
  pub told : Said voice after sink sink' front

-- a write failed on the way
abbrev pub FailsToSay : Voice → SinkSeen → SinkSeen → List Saying → Type 0
FailsToSay (Writes form) sink sink' said = WriteFailed sink sink' (text_of form said)
FailsToSay (Counts tally) sink sink' said = ⊥

abbrev pub StopsSaying : Stop → Voice → Voice → SinkSeen → SinkSeen → List Saying → Type 0
StopsSaying Memory voice after sink sink' said = SaidFront voice after sink sink' said
StopsSaying Write voice after sink sink' said = FailsToSay voice sink sink' said

-- all was said, or the call stopped on the way
abbrev pub Tells : {T : Type 0} → Voice → Voice → SinkSeen → SinkSeen → List Saying → Result T Stop → Type 0
Tells voice after sink sink' said result =
    MatchResult result (λ _. Said voice after sink sink' said) (λ why. StopsSaying why voice after sink sink' said)

-- and it is known whether something of it is a refusal
abbrev pub Says : Voice → Voice → SinkSeen → SinkSeen → List Saying → Result Bool Stop → Type 0
Says voice after sink sink' said (Ok refused) =
    Said voice after sink sink' said × (refused ≡ list_any is_refusal said)
Says voice after sink sink' said (Err why) = StopsSaying why voice after sink sink' said

-- a refusal; want of memory is none
abbrev pub refusal_said : Place → Option Reason → List Saying
refusal_said place reason = option_to_list (option_map (a_refusal place) reason)
