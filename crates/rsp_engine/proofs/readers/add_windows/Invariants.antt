use Rattle.std.proofs.Common.{◌≡◌, ℕ, List, ◌++◌, take}
use Rattle.rsp_engine.specs.Readers.{list_of, placed}
use Rattle.rsp_engine.proofs.readers.add_windows.Given as goal

abbrev pub invariant-loop-window : goal.invariant-loop-window
invariant-loop-window g l =
    (s : List ℕ) → list_of l.lists.entries s
    ≡ list_of l.initial.lists.entries s ++ placed s l.place l.live.first (take l.window-index l.windows)
