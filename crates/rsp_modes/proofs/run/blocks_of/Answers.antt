use Rattle.std.proofs.lemmas.Result.{IfOk-weaker}
use Rattle.std.specs.List.{AllByRecursion}
use Rattle.rsp_events.specs.Instants.{IsInstant}
use Rattle.rsp_modes.proofs.Recorded.{numbered_timed, with_tick_timed}
use Rattle.rsp_modes.proofs.run.blocks_of.Goals as goal

pub returns-clause-timed : goal.returns-clause-timed
returns-clause-timed c =
    let items = c.in_ok-items.ensures.timed c.requires in
    let events : AllByRecursion IsInstant c.in_ok-with_tick.field-0 = rw c.in_ok-with_tick.ensures (with_tick_timed _ items) in
    IfOk-weaker c.numbered.result _ _ (λ blocks is. rw is (numbered_timed _ _ events)) c.numbered.ensures
