-- Definitions: what a total holds.
use Rattle.std.specs.Prelude.{ℕ, ℤ}

-- The exact sum of numbers in units of 10^-18, of which each number is a whole number, and how many numbers of each
-- kind are in it.
pub record Tally : Type 0 where
  pub sum : ℤ
  pub integers : ℕ
  pub decimals : ℕ
