use Rattle.std.proofs.Common.{ap, ◌∙◌, ◌++◌}
use Rattle.std.proofs.lemmas.List.{take_all}
use Rattle.rsp_events.specs.Begun.{ending_of}
use Rattle.rsp_events.proofs.Endings.{more_bytes}
use Rattle.rsp_events.proofs.begun.ending_behind.Goals as goal

pub loop-byte-preserved : goal.loop-byte-preserved
loop-byte-preserved c bytes long is =
    more_bytes bytes _ _ c.args.ending _ _ c.loop-byte-test.true long (c.loop-byte.invariant bytes long is) c.next_ending-ending.ensures

pub returns : goal.returns
returns c bytes long is =
    c.loop-byte.invariant bytes long is ∙ ap (λ r. ending_of (bytes ++ r)) (take_all _ _ c.loop-byte-test.false)
