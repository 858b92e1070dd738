use Rattle.std.proofs.Common.{◌-◌, length}
use Rattle.rsp_modes.proofs.Writings.{Writing}
use Rattle.rsp_modes.proofs.writing.write_whole.Given as goal

-- the text is written as far as this
abbrev pub invariant-pieces : goal.invariant-pieces
invariant-pieces g l =
    Writing
    (g.K.Sink.seen l.initial.out)
    (g.K.Sink.seen l.out)
    l.text
    l.written

abbrev pub decreases-pieces : goal.decreases-pieces
decreases-pieces g l = length l.text - l.written
