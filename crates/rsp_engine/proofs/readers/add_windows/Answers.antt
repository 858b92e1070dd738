use Rattle.rsp_engine.specs.Readers.{list_of}
use Rattle.rsp_engine.proofs.ReaderLists.{window_added}
use Rattle.rsp_engine.proofs.readers.add_windows.Goals as goal

pub loop-window-preserved : goal.loop-window-preserved
loop-window-preserved g c =
    window_added c.as_slice-windows.result.now c.loop-window.window-index c.window-item.result c.loop-window-test.true c.window-item.is
    c.args.place c.args.live.now.first (list_of c.args.lists.now.entries) (list_of c.loop-window.lists.entries) c.loop-window.invariant
    (list_of c.push_for.new.lists.entries) c.in_ok-push_for.ensures
