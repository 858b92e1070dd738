-- Definitions: the longest front of a text that passes a test.
use Rattle.std.specs.Prelude.{ℕ, zero, suc, Bool, if◌then◌else◌, List, length, take}

-- the length of the longest front, of at most so many items, that passes a test
abbrev pub longest_up_to : ℕ → (List ℕ → Bool) → List ℕ → ℕ
longest_up_to zero test items = 0
longest_up_to (suc n) test items = if test (take (suc n) items) then suc n else longest_up_to n test items

-- the longest front that passes a test, and nothing where none does
abbrev pub longest_front : (List ℕ → Bool) → List ℕ → List ℕ
longest_front test items = take (longest_up_to (length items) test items) items
