use Rattle.std.specs.Vec.Iter.{into_iter_items}
use Rattle.std.proofs.Common.{map}
use Rattle.rsp_modes.specs.Output.{a_block}
use Rattle.rsp_modes.proofs.Driving.{Working}
use Rattle.rsp_modes.proofs.Spending.{GivenSpending}
use Rattle.rsp_modes.proofs.blocks.take_blocks.Given as goal

abbrev pub invariant-loop-block : goal.invariant-loop-block
invariant-loop-block g l =
    Working
    l.initial.engine
    l.engine
    l.fn.blocks
    (into_iter_items l.block-iterator)
    l.initial.voice
    l.voice
    (g.K.Sink.seen l.initial.out)
    (g.K.Sink.seen l.out)
    l.refused
    × GivenSpending l.initial.engine l.engine (map a_block l.fn.blocks) (map a_block (into_iter_items l.block-iterator))
    l.initial.steps l.steps
