-- Words of the way: what a search among sorted times finds.
use Rattle.std.specs.Prelude.{min, ℕ, ◌-◌, ◌<◌, ◌≤◌, Option, None, Some, List}
use Rattle.std.specs.List.{Contains}
use Rattle.rsp_spec.specs.Windows.{Shape}
use Rattle.rsp_spec.specs.Relations.{IsNeeded}

-- the least of the times above `low`, and none only where all are at most `low`
abbrev pub IsFirstAfter : List ℕ → ℕ → Option ℕ → Type 0
IsFirstAfter times low None = (time : ℕ) → Contains times time → time ≤ low
IsFirstAfter times low (Some first) =
    Contains times first × (low < first) × ((time : ℕ) → Contains times time → low < time → first ≤ time)

-- no time that is needed at t comes before it, and it is needed itself unless it is later than t
abbrev pub IsFirstReaching : Shape → List ℕ → ℕ → Option ℕ → Type 0
IsFirstReaching w times t None = (time : ℕ) → Contains times time → IsNeeded w time t → ⊥
IsFirstReaching w times t (Some first) =
    Contains times first × (first ≤ t → IsNeeded w first t)
    × ((time : ℕ) → Contains times time → IsNeeded w time t → first ≤ time)

-- a time that is in the content at the instant before t, and not needed at t
pub record Leaves (w : Shape) (times : List ℕ) (t : ℕ) : Type 0 where
  pub time : ℕ
  pub listed : Contains times time
  pub earlier : time < t
  pub needed : IsNeeded w time (t - 1)
  pub left : IsNeeded w time t → ⊥

-- as `IsFirstReaching`, among the times above `low` alone
abbrev pub IsFirstBehind : Shape → List ℕ → ℕ → ℕ → Option ℕ → Type 0
IsFirstBehind w times low t None = (time : ℕ) → Contains times time → low < time → IsNeeded w time t → ⊥
IsFirstBehind w times low t (Some first) =
    Contains times first × (low < first) × (first ≤ t → IsNeeded w first t)
    × ((time : ℕ) → Contains times time → low < time → IsNeeded w time t → first ≤ time)

-- the least of the times above `low` that are needed at t, also of those later than t, or there is none
abbrev pub IsFirstNeeded : Shape → List ℕ → ℕ → ℕ → Option ℕ → Type 0
IsFirstNeeded w times low t None = (time : ℕ) → Contains times time → low < time → IsNeeded w time t → ⊥
IsFirstNeeded w times low t (Some first) =
    Contains times first × (low < first) × IsNeeded w first t
    × ((time : ℕ) → Contains times time → low < time → IsNeeded w time t → first ≤ time)

-- an item enters the content at t
abbrev pub Enters : Shape → List ℕ → ℕ → Type 0
Enters w times t = Contains times t × IsNeeded w t t

-- the lesser number, where there are two
abbrev pub sooner : Option ℕ → Option ℕ → Option ℕ
sooner None b = b
sooner (Some x) None = Some x
sooner (Some x) (Some y) = Some (min x y)
