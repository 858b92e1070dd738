use Rattle.std.proofs.Common.{◌≡◌, bytes_eq, drop}
use Rattle.std.specs.List.{list_any}
use Rattle.rsp_engine.specs.declared.live_query.StreamWindow.{StreamWindow}
use Rattle.rsp_engine.proofs.live_query.is_over_some.Given as goal

abbrev pub invariant-loop-window : goal.invariant-loop-window
invariant-loop-window l =
    list_any (λ (w : StreamWindow). bytes_eq l.stream w.stream) (drop l.window-index l.windows)
    ≡ list_any (λ (w : StreamWindow). bytes_eq l.stream w.stream) l.windows
