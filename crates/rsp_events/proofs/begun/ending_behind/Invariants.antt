use Rattle.std.proofs.Common.{ℕ, ◌≡◌, ◌≤◌, ◌++◌, List, length, take}
use Rattle.rsp_events.specs.Begun.{ending_of}
use Rattle.rsp_events.proofs.begun.ending_behind.Given as goal

abbrev pub invariant-loop-byte : goal.invariant-loop-byte
invariant-loop-byte l =
    (bytes : List ℕ) → 4 ≤ length bytes → ending_of bytes ≡ l.initial.ending
    → l.ending ≡ ending_of (bytes ++ take l.byte-index l.run)
