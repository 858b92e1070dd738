use Rattle.std.proofs.Common.{◌∙◌}
use Rattle.rsp_modes.proofs.Driving.{next_timed, none_to_come, working_all, working_more, working_nothing, working_stops}
use Rattle.rsp_modes.proofs.Spending.{given_all, given_more, given_nothing, given_stops}
use Rattle.rsp_modes.proofs.blocks.take_blocks.Goals as goal

pub loop-block-init : goal.loop-block-init
loop-block-init g c =
    let same = c.into_iter-block-iterator.ensures.into_iter_gives.0 ∙ c.into_vec-block-items.ensures in
    (working_nothing _ _ _ _ _ same c.requires.idle c.requires.instants, given_nothing _ _ _ _ same)

pub loop-block-preserved : goal.loop-block-preserved
loop-block-preserved g c =
    let took = c.in-Ok.ensures in (
      rw
          c.either-refused.ensures
          (working_more _ _ _ _ _ _ _ _ _ _ _ _ _ _ _
          c.loop-block.invariant.0
          c.in-Some.ensures.steps.0
          took.idle
          took.says
          took.stands),
      given_more _ _ _ _ _ _ _ _ _ _ c.loop-block.invariant.1 c.in-Some.ensures.steps.0 c.take_block.ensures.cost took.stands,
    )

pub take_block-requires-clause-instant : goal.take_block-requires-clause-instant
take_block-requires-clause-instant g c = next_timed _ _ _ c.loop-block.invariant.0.timed c.in-Some.ensures.steps.0

pub returns-in-Err-clause-says : goal.returns-in-Err-clause-says
returns-in-Err-clause-says g c world stands =
    working_stops _ _ _ _ _ _ _ _ _ _ _ _ _ c.in-Err.stop world
    c.loop-block.invariant.0
    c.in-Some.ensures.steps.0
    c.in-Err.ensures.says
    stands

pub returns-clause-says : goal.returns-clause-says
returns-clause-says g c world stands =
    (working_all _ _ _ _ _ _ _ _ _ world c.loop-block.invariant.0 (none_to_come _ _ c.loop-block.block-iterator.rest.ok.0 c.in-None.ensures.steps.0) stands).0

pub returns-clause-stands : goal.returns-clause-stands
returns-clause-stands g c world stands =
    (working_all _ _ _ _ _ _ _ _ _ world c.loop-block.invariant.0 (none_to_come _ _ c.loop-block.block-iterator.rest.ok.0 c.in-None.ensures.steps.0) stands).1

pub returns-in-Err-clause-cost : goal.returns-in-Err-clause-cost
returns-in-Err-clause-cost g c world stands =
    given_stops _ _ _ _ _ _ _ _ _ c.loop-block.invariant.1 c.in-Some.ensures.steps.0 c.take_block.ensures.cost world stands

pub returns-clause-cost : goal.returns-clause-cost
returns-clause-cost g c world stands = given_all _ _ _ _ _ _ c.loop-block.invariant.1 world stands
