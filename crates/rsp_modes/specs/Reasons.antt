-- Words of the way: the reason that a reader's or the engine's answer names, and the parts of a refusal's row.
use Rattle.std.specs.Prelude.{ℕ, Option, None, Some, List}
use Rattle.rsp_engine.specs.declared.refused.Refused.{Refused}
use Rattle.rsp_engine.specs.declared.refused.Refused.TheVariants.{Broken, OutOfMemory}
use Rattle.rsp_modes.specs.declared.refusals.Answered.{Answered}
use Rattle.rsp_modes.specs.declared.refusals.Answered.TheVariants as answered
use Rattle.rsp_modes.specs.Refusals.{Reason, of_block, of_event, of_line, row}

-- want of memory is none
abbrev pub event_reason : Refused → Option Reason
event_reason Broken = None
event_reason OutOfMemory = None
event_reason why = Some (of_event why)

abbrev pub reason_of : Answered → Option Reason
reason_of (answered.Line fault) = Some (of_line fault)
reason_of (answered.Fault fault) = Some (of_block fault)
reason_of (answered.Event why) = event_reason why

abbrev pub kind : Reason → ℕ × List ℕ
kind reason = ((row reason).0, (row reason).1)

abbrev pub details : Reason → List ℕ
details reason = (row reason).2
