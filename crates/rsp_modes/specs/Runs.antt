-- Words of the way: what a block's content is offered as, and what blocks alone say.
use Rattle.std.specs.Prelude.{◌≡◌, Result, Ok, Err, List, map}
use Rattle.rsp_events.specs.declared.event.Block.{Block}
use Rattle.rsp_events.specs.declared.event.Content.{Content}
use Rattle.rsp_events.specs.declared.event.Content.TheVariants as content
use Rattle.rsp_engine.specs.Offers.{Accepts, Refuses}
use Rattle.rsp_engine.specs.Stands.{State}
use Rattle.rsp_engine.specs.World.{World}
use Rattle.rsp_modes.specs.declared.refusals.Answered.{Answered}
use Rattle.rsp_modes.specs.declared.refusals.Answered.TheVariants as answered
use Rattle.rsp_modes.specs.Output.{Step, a_block, run}

-- an event is offered to the engine; a fault is answered by itself, and nothing has changed
abbrev pub OffersContent : State → Content → Result (Unit {0}) Answered → State → Type 0
OffersContent old (content.Event event) (Ok done) new = Accepts old event new
OffersContent old (content.Event event) (Err (answered.Event why)) new = Refuses old event why new
OffersContent old (content.Fault fault) (Err (answered.Fault same)) new = (same ≡ fault) × (new ≡ old)
OffersContent old _ _ new = ⊥

abbrev pub run_blocks : World → List Block → Step
run_blocks world blocks = run world (map a_block blocks)
