use Rattle.std.proofs.lemmas.Result.{on_ok_weaker}
use Rattle.rsp_engine.proofs.Following.{moved_by}
use Rattle.rsp_engine.proofs.reporting.move_window.Goals as goal

pub returns-clause-moved : goal.returns-clause-moved
returns-clause-moved c =
    on_ok_weaker c.join_changes.result
    (λ added. moved_by c.args.streams.now c.args.at c.args.window.now c.move_to.new.self c.in_ok-moved.moved c.args.changes.now c.join_changes.new.self
    c.move_to.ensures.watch c.in_ok-moved.ensures.at c.in_ok-moved.ensures.moved added)
    c.join_changes.ensures
