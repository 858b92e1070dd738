use Rattle.std.proofs.Common.{◌<◌, get_or, length, arith}
use Rattle.std.proofs.lemmas.List.{get_or_default}
use Rattle.rsp_scope.specs.Moves.{Followed, IsReached}
use Rattle.rsp_engine.proofs.Following.{all_at, all_moved, as_before, one_moved}
use Rattle.rsp_engine.proofs.reporting.move_windows.Goals as goal

pub move_window-requires-clause-reached : goal.move_window-requires-clause-reached
move_window-requires-clause-reached c =
    as_before (λ (seen : Followed). IsReached seen.at c.args.at) c.args.streams.now c.args.at c.loop-window.window c.args.contents.now c.loop-window.contents c.args.changes.now c.loop-window.changes
    c.index-contents-window.result (omega arith) c.loop-window.invariant c.requires.reached

pub loop-window-preserved : goal.loop-window-preserved
loop-window-preserved c =
    let below : c.loop-window.window < length c.loop-window.contents = omega arith in
    let one = get_or c.loop-window.contents c.loop-window.window c.index-contents-window.result in
    one_moved c.args.streams.now c.args.at c.loop-window.window c.args.contents.now c.loop-window.contents c.args.changes.now c.loop-window.changes c.move_window.new.changes
    one c.move_window.new.window below (get_or_default c.loop-window.contents c.loop-window.window c.index-contents-window.result one below) c.loop-window.invariant
    c.in_ok-move_window.ensures.watch c.in_ok-move_window.ensures.at c.in_ok-move_window.ensures.moved

pub returns-clause-at : goal.returns-clause-at
returns-clause-at c =
    all_at c.args.streams.now c.args.at c.loop-window.window c.args.contents.now c.loop-window.contents c.args.changes.now c.loop-window.changes (omega arith) c.loop-window.invariant

pub returns-clause-moved : goal.returns-clause-moved
returns-clause-moved c items begun has =
    let moved = all_moved c.args.streams.now c.args.at c.loop-window.window c.args.contents.now c.loop-window.contents c.args.changes.now c.loop-window.changes (omega arith) c.loop-window.invariant items begun has in
    (moved.begun, moved.told, moved.accepted)
