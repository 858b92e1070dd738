use Rattle.std.proofs.Common.{arith}
use Rattle.std.proofs.lemmas.Int.{ints}
use Rattle.rsp_text.proofs.instants.milliseconds.Goals as goal

pub returns : goal.returns
returns c = omega (arith, ints, c.requires.day, c.requires.ahead, c.from.ensures, c.from-2.ensures, c.from-3.ensures)
