use Rattle.std.proofs.Common.{◌==◌}
use Rattle.rsp_events.proofs.FirstByte.{found_at, found_nowhere}
use Rattle.rsp_events.proofs.lines.line_end.Goals as goal

pub returns-in-Some-clause-place : goal.returns-in-Some-clause-place
returns-in-Some-clause-place c = (found_at _ c.args.bytes.now _ c.in-Some.ensures).0

pub returns-in-Some-clause-bound : goal.returns-in-Some-clause-bound
returns-in-Some-clause-bound c = (found_at (λ b. b == 10) c.args.bytes.now _ c.in-Some.ensures).1

pub returns-in-None-clause-place : goal.returns-in-None-clause-place
returns-in-None-clause-place c = found_nowhere _ c.args.bytes.now c.in-None.ensures
