use Rattle.rsp_number.proofs.Shortest.{power-above-zero}
use Rattle.rsp_literals.proofs.same.is_size_text.Goals as goal

pub nonzero_div-size : goal.nonzero_div-size
nonzero_div-size c = rw c.pow.ensures (power-above-zero c.args.scale)
