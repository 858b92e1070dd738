use Rattle.rsp_modes.proofs.Writings.{write_on, write_failed}
use Rattle.rsp_modes.proofs.writing.write_whole.Goals as goal

pub pieces-preserved : goal.pieces-preserved
pieces-preserved g c =
    let wrote = rw c.split_at.ensures.back at c.in-Ok.ensures in
    write_on _ _ _ _ _ _
    c.pieces.invariant
    wrote.bound.1
    wrote.bytes
    wrote.room
    wrote.cause.1

pub returns-in-Err : goal.returns-in-Err
returns-in-Err g c =
    record { text = write_failed _ _ _ _ _ c.pieces.invariant c.pieces-test.true c.in-Err.ensures.bytes c.in-Err.ensures.failing c.in-Err.ensures.cause.1 }
