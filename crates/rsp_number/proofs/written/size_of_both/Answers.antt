use Rattle.std.proofs.Common.{arith}
use Rattle.rsp_number.specs.Texts.{number_after}
use Rattle.rsp_number.proofs.Writing.{number-grows}
use Rattle.rsp_number.proofs.written.size_of_both.Goals as goal

pub returns-in-None : goal.returns-in-None
returns-in-None c = λ fits.
    let grown = number-grows (number_after 0 c.args.whole.now) c.args.fraction.now in
    c.in-None.ensures (omega arith)
