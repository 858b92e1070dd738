-- Words of the way: which events and blocks have a time that is an instant, up to the end of the year 9999. What reads blocks
-- and files promises it, and the engine asks it of what is offered.
use Rattle.std.specs.Prelude.{◌≤◌, List, ⊤}
use Rattle.std.specs.List.{AllByRecursion}
use Rattle.rsp_spec.specs.Limits.{last_instant}
use Rattle.rsp_events.specs.declared.event.Event.{Event}
use Rattle.rsp_events.specs.declared.event.Event.TheVariants.{Item, Tick}
use Rattle.rsp_events.specs.declared.event.Content.{Content}
use Rattle.rsp_events.specs.declared.event.Content.TheVariants as content
use Rattle.rsp_events.specs.declared.event.Block.{Block}

-- the event's time, where it has one, is an instant
abbrev pub IsInstant : Event → Type 0
IsInstant (Item stream time graph) = time ≤ last_instant
IsInstant (Tick time) = time ≤ last_instant
IsInstant _ = ⊤

abbrev pub IsTimed : Content → Type 0
IsTimed (content.Event event) = IsInstant event
IsTimed (content.Fault fault) = ⊤

abbrev pub AllTimed : List Block → Type 0
AllTimed blocks = AllByRecursion (λ (block : Block). IsTimed block.content) blocks
