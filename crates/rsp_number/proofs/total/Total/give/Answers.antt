use Rattle.std.proofs.Common.{arith}
use Rattle.rsp_number.proofs.Tallying.{kinds-of}
use Rattle.rsp_number.proofs.total.Total.give.Goals as goal

pub times-requires-clause-count : goal.times-requires-clause-count
times-requires-clause-count c =
    let kinds = kinds-of c.args.number.now c.args.times in
    let integers = rw (← c.self.view_is) at c.requires.integers in
    let decimals = rw (← c.self.view_is) at c.requires.decimals in
    let few = c.self.invariant.few in
    omega arith
