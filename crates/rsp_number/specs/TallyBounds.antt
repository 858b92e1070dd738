-- Words of the way: which tallies a total can hold. It holds one at first, and what is taken in and given back keeps it so.
use Rattle.std.specs.Prelude.{ℕ, ◌+◌, ◌*◌, ◌%◌, ◌^◌, ◌≤◌, ℤ, unsigned_abs, ◌≡◌}
use Rattle.rsp_spec.specs.Limits.{most_counted}
use Rattle.rsp_number.specs.Decimals.{largest}
use Rattle.rsp_number.specs.Tallies.{Tally}
use Rattle.rsp_number.specs.Totals.{units}
use Rattle.rsp_number.specs.declared.number.Number.{Number}

-- a sum in units of 10^-18 is a whole number
abbrev pub IsWhole : ℤ → Type 0
IsWhole sum = unsigned_abs sum % 10 ^ 18 ≡ 0

-- so many numbers can have the sum
abbrev pub IsWithin : ℤ → ℕ → Type 0
IsWithin sum count = unsigned_abs sum ≤ largest * 10 ^ 18 * count

-- the tallies that a total can hold
pub record IsTally (tally : Tally) : Type 0 where
  pub few : tally.integers + tally.decimals ≤ most_counted
  pub within : IsWithin tally.sum (tally.integers + tally.decimals)
  pub whole : tally.decimals ≡ 0 → IsWhole tally.sum

-- the number is at most 2^63 - 1 in size
abbrev pub IsSmall : Number → Type 0
IsSmall number = unsigned_abs (units number) ≤ largest * 10 ^ 18
