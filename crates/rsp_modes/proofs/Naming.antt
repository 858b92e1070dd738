-- What the engine's answers to an event are that name a reason.
use Rattle.std.proofs.Common.{◌≡◌, Some}
use Rattle.rsp_events.specs.declared.event.Event.{Event}
use Rattle.rsp_engine.specs.declared.refused.Refused.{Refused}
use Rattle.rsp_engine.specs.declared.refused.Refused.TheVariants as refused
use Rattle.rsp_engine.specs.Offers.{Refuses, RefusesAs}
use Rattle.rsp_engine.specs.Stands.{State}
use Rattle.rsp_modes.specs.Reasons.{event_reason}
use Rattle.rsp_modes.specs.Refusals.{Reason, of_event}

-- it is the definition's refusal
pub refuses_as : (old new : State) (event : Event) (why : Refused) (reason : Reason) → Refuses old event why new → event_reason why ≡ Some reason → RefusesAs old event why new × (reason ≡ of_event why)
refuses_as old new event refused.Broken reason refuses is = cc
refuses_as old new event refused.OutOfMemory reason refuses is = cc
refuses_as old new event (refused.Text fault) reason refuses is = (refuses, cc)
refuses_as old new event (refused.Late time next) reason refuses is = (refuses, cc)
refuses_as old new event refused.NameTaken reason refuses is = (refuses, cc)
refuses_as old new event refused.NoQuery reason refuses is = (refuses, cc)
refuses_as old new event refused.QueriesFull reason refuses is = (refuses, cc)
refuses_as old new event (refused.HeldFull held) reason refuses is = (refuses, cc)
refuses_as old new event (refused.StoreFull quads) reason refuses is = (refuses, cc)
refuses_as old new event (refused.ItemTooLarge triples) reason refuses is = (refuses, cc)
refuses_as old new event refused.SlackTuple reason refuses is = (refuses, cc)
refuses_as old new event refused.StartOverfull reason refuses is = (refuses, cc)
