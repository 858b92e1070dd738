use Rattle.std.proofs.Common.{◌≤◌, ◌∷◌, [], arith, length, subst}
use Rattle.rsp_engine.specs.Readers.{IsEndBy}
use Rattle.rsp_engine.proofs.EndsRead.{all_windows, window_more}
use Rattle.rsp_engine.proofs.retention.end_of.Goals as goal

pub loop-window-preserved : goal.loop-window-preserved
loop-window-preserved c =
    rw c.later-end.ensures
    (window_more c.windows-windows.result.now c.args.number c.args.time c.loop-window.window-index c.window-item.result
    c.loop-window.end c.end_within_window.result c.loop-window-test.true c.window-item.is c.loop-window.invariant c.end_within_window.ensures)

pub returns : goal.returns
returns c =
    let end : length c.windows-windows.result.now ≤ c.loop-window.window-index = omega (arith, c.loop-window-test.false) in
    subst (λ ws. IsEndBy ws c.args.number c.args.time c.loop-window.end) c.windows-windows.ensures
    (all_windows c.windows-windows.result.now c.args.number c.args.time c.loop-window.window-index c.loop-window.end end c.loop-window.invariant)
