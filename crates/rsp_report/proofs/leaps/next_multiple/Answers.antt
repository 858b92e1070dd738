use Rattle.std.proofs.Common.{arith, ◌<◌, ◌≤◌, ◌+◌, ◌-◌, ◌%◌}
use Rattle.rsp_report.proofs.Agreement.{multiple_next}
use Rattle.rsp_report.proofs.leaps.next_multiple.Goals as goal

pub returns-then-missing-to : goal.returns-then-missing-to
returns-then-missing-to c =
    let rest : 0 < c.args.from % c.args.period = grind (arith, c.if-rest-eq0.false) in
    let high : c.args.from + (c.args.period - c.args.from % c.args.period) ≤ c.args.to = omega (arith, c.if-missing-to.true, c.requires.order) in
    multiple_next _ _ _ c.requires.period rest high
