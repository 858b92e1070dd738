use Rattle.std.proofs.Common.{◌≡◌, ℕ, List}
use Rattle.rsp_engine.specs.Readers.{list_of}
use Rattle.rsp_engine.proofs.readers.tidy.Given as goal

abbrev pub invariant-loop-window : goal.invariant-loop-window
invariant-loop-window g l = (s : List ℕ) → list_of l.lists.entries s ≡ list_of l.initial.lists.entries s
