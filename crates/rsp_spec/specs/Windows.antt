-- Definitions: time-based windows (RSP-QL, time-based window operator; SECRET, scope). All times are in milliseconds.
use Rattle.std.specs.Prelude.{ℕ, ◌+◌, ◌*◌, ◌≤◌, Bool, ◌&&◌, ◌==◌, nat_lt, nat_le, Option, false}
use Rattle.std.specs.List.{find, list_any, range_with_len}
use Rattle.std.specs.Option.{option_map_or}
use Rattle.rsp_spec.specs.Limits.{last_instant}

-- how long a window is open, the distance from one opening to the next, and the first opening
pub record Shape : Type 0 where
  pub width : ℕ
  pub slide : ℕ
  pub origin : ℕ

-- width and slide are at least 1 ms, and nothing passes the last instant
pub record IsShape (w : Shape) : Type 0 where
  pub width_low : 1 ≤ w.width
  pub width_high : w.width ≤ last_instant
  pub slide_low : 1 ≤ w.slide
  pub slide_high : w.slide ≤ last_instant
  pub origin_high : w.origin ≤ last_instant

-- when window k opens; this instant itself isn't in it
abbrev pub opening : Shape → ℕ → ℕ
opening w k = w.origin + k * w.slide

-- when window k closes; this instant is its last
abbrev pub closing : Shape → ℕ → ℕ
closing w k = opening w k + w.width

-- window k contains t
abbrev pub contains : Shape → ℕ → ℕ → Bool
contains w k t = nat_lt (opening w k) t && nat_le t (closing w k)

-- the least k whose window contains t; no window from t on does, since each opens 1 ms or more after the one before
abbrev pub active_window : Shape → ℕ → Option ℕ
active_window w t = find (λ k. contains w k t) (range_with_len 0 t)

-- some window closes at t
abbrev pub closes_at : Shape → ℕ → Bool
closes_at w t = list_any (λ k. closing w k == t) (range_with_len 0 (t + 1))

-- an item of this time is in the content at t: it came after the active window had opened, and not after t
abbrev pub in_content : Shape → ℕ → ℕ → Bool
in_content w t time = option_map_or (λ k. nat_lt (opening w k) time && nat_le time t) (active_window w t) false

-- some window contains the time and closes at `from` or later; none opens at the time or later
abbrev pub is_needed : Shape → ℕ → ℕ → Bool
is_needed w time from = list_any (λ k. contains w k time && nat_le from (closing w k)) (range_with_len 0 time)
