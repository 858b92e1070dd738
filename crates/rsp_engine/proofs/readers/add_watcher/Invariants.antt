use Rattle.std.proofs.Common.{◌≡◌, ℕ, List, [], ◌∷◌, ◌++◌, cond, take}
use Rattle.rsp_engine.specs.Readers.{list_of, reads}
use Rattle.rsp_engine.proofs.readers.add_watcher.Given as goal

abbrev pub invariant-loop-window : goal.invariant-loop-window
invariant-loop-window g l =
    (s : List ℕ) → list_of l.lists.entries s
    ≡ cond (reads s (take l.window l.windows)) (list_of l.initial.lists.entries s ++ l.place ∷ []) (list_of l.initial.lists.entries s)
