-- Words of the way: common instants of closings and of the multiples of a period, without a number below 0.
use Rattle.std.specs.Prelude.{◌≡◌, ℕ, ◌+◌, ◌*◌, ◌%◌, ◌<◌, ◌≤◌}

-- t is `number` slides behind the first closing `base`, and the period divides it
pub record IsShared (base slide period t : ℕ) : Type 0 where
  pub number : ℕ
  pub closes : t ≡ base + number * slide
  pub divides : t % period ≡ 0

-- a common divisor of a and b, as a multiple of a less one of b: so it is the greatest
pub record IsBezout (a b divisor times less : ℕ) : Type 0 where
  pub positive : 0 < divisor
  pub left : a % divisor ≡ 0
  pub right : b % divisor ≡ 0
  pub meets : times * a ≡ divisor + less * b
  pub times_high : times ≤ b
  pub less_high : less ≤ a

-- the shared instants are exactly first, first + step, first + 2 * step, ..
pub record IsRow (base slide period first step : ℕ) : Type 0 where
  pub moves : 0 < step
  pub sound : (j : ℕ) → IsShared base slide period (first + j * step)
  pub whole : (t : ℕ) → IsShared base slide period t → (j : ℕ) × (t ≡ first + j * step)
