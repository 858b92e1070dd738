use Rattle.std.proofs.Common.{◌≡◌, ◌<◌, ◌≤◌, ◌∙◌, ◌&&◌, ap, arith, cond, get_or, length, sym, take_all}
use Rattle.std.proofs.lemmas.List.{get_or_default}
use Rattle.rsp_engine.specs.Readers.{list_of, reads}
use Rattle.rsp_engine.proofs.ReaderLists.{none_added, one_added}
use Rattle.rsp_engine.proofs.readers.add_watcher.Goals.{else-not-is_over_some, then-not-is_over_some+in_ok-push_for}
use Rattle.rsp_engine.proofs.readers.add_watcher.Goals as goal

pub loop-window-preserved : goal.loop-window-preserved
loop-window-preserved g c =
    let windows = c.as_slice-windows.result.now in
    let i = c.loop-window.window in
    let window = get_or windows i c.index-windows-window.result in
    let below : i < length windows = omega (arith, c.loop-window-test.true) in
    let is = get_or_default windows i c.index-windows-window.result window below in
    let old = list_of c.args.lists.now.entries in
    let cur = list_of c.loop-window.lists.entries in
    elim c.if-not-is_over_some.branch [
      | then-not-is_over_some+in_ok-push_for w ↦ λ s.
          ap (λ l. list_of l.entries s) w.lists-is
          ∙ one_added windows i window below is c.args.place old cur c.loop-window.invariant (list_of w.push_for.new.lists.entries)
          (sym c.is_over_some.ensures ∙ w.if-not-is_over_some.true) w.in_ok-push_for.ensures s
      | else-not-is_over_some w ↦ λ s.
          ap (λ l. list_of l.entries s) w.lists-is
          ∙ none_added windows i window below is c.args.place old cur c.loop-window.invariant
          (sym c.is_over_some.ensures ∙ w.if-not-is_over_some.false) s
    ]
