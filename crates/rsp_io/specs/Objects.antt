-- Definitions: which calls of the objects in memory fail, and how an object counts its calls and its faults.
use Rattle.std.specs.Prelude.{ℕ, ◌+◌, ◌-◌, ◌^◌, min, Bool, List, ◌==◌, Result, Ok, Err}
use Rattle.std.specs.List.{list_any}

-- a number of 64 bits after one more; it stops at its type's end
abbrev pub one_more : ℕ → ℕ
one_more count = min (count + 1) (2 ^ 64 - 1)

-- the call of this number is listed
abbrev pub is_listed : ℕ → List ℕ → Bool
is_listed call failing = list_any (λ listed. listed == call) failing

-- a count of faults after a call: one more where it failed
abbrev pub faults_after : {T E : Type 0} → ℕ → Result T E → ℕ
faults_after faults (Ok value) = faults
faults_after faults (Err error) = one_more faults
