use Rattle.rsp_engine.proofs.EndsRead.{by_shape, not_seen}
use Rattle.rsp_engine.proofs.retention.end_within_window.Goals as goal

pub returns-then-number-window : goal.returns-then-number-window
returns-then-number-window c = not_seen c.args.window.now c.args.number c.args.time c.if-number-window.true

pub returns : goal.returns
returns c = by_shape c.args.window.now c.args.number c.args.time c.last_needed.result c.if-number-window.false c.last_needed.ensures.value
