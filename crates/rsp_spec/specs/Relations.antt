-- Words of the way: what is searched for among windows, as relations; laws tie each to its search.
use Rattle.std.specs.Prelude.{◌≡◌, ℕ, ◌<◌, ◌≤◌, ◌%◌, true, false, Option, None, Some}
use Rattle.rsp_spec.specs.Windows.{Shape, closes_at, closing, contains}

-- `active` as a relation: the least of all k whose window contains t, and none only where no window at all does
abbrev pub IsActive : Shape → ℕ → Option ℕ → Type 0
IsActive w t None = (k : ℕ) → contains w k t ≡ false
IsActive w t (Some least) = (contains w least t ≡ true) × ((k : ℕ) → k < least → contains w k t ≡ false)

-- a closing at `from` or later, and no closing from there on is before it
pub record IsNextClosing (w : Shape) (from next : ℕ) : Type 0 where
  pub number : ℕ
  pub closes : closing w number ≡ next
  pub late : from ≤ next
  pub least : (k : ℕ) → from ≤ closing w k → next ≤ closing w k

-- some window contains the time and closes at `from` or later
pub record IsNeeded (w : Shape) (time from : ℕ) : Type 0 where
  pub number : ℕ
  pub inside : contains w number time ≡ true
  pub late : from ≤ closing w number

-- the greatest closing among the windows that contain the time, and none only where no window does
abbrev pub IsLastNeeded : Shape → ℕ → Option ℕ → Type 0
IsLastNeeded w time None = (k : ℕ) → contains w k time ≡ false
IsLastNeeded w time (Some last) =
    ((k : ℕ) × (contains w k time ≡ true) × (closing w k ≡ last))
    × ((k : ℕ) → contains w k time ≡ true → closing w k ≤ last)

-- there is a last instant, and it is `from` or later
abbrev pub IsAtMost : ℕ → Option ℕ → Type 0
IsAtMost from None = ⊥
IsAtMost from (Some last) = from ≤ last

-- a window closes at t, and the period divides t
abbrev pub ClosesAtMultiple : Shape → ℕ → ℕ → Type 0
ClosesAtMultiple w period t = (closes_at w t ≡ true) × (t % period ≡ 0)
