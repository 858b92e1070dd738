-- Definitions: when a query is due (SECRET, report and tick), over its windows with the times of the items that it may
-- see. An item stands for itself by its place in `times`. Each strategy may hold by another window.
use Rattle.std.specs.Prelude.{◌≡◌, ℕ, ◌-◌, ◌^◌, ◌≤◌, ◌%◌, ◌==◌, Bool, true, ◌&&◌, ◌||◌, not, Some, List, slice_get, length}
use Rattle.std.specs.Bool.{beq}
use Rattle.std.specs.List.{list_any, All}
use Rattle.std.specs.Option.{option_map_or}
use Rattle.std.specs.List.Sorted.{IsNonDecreasing}
use Rattle.rsp_spec.specs.Windows.{closes_at, in_content}
use Rattle.rsp_report.specs.declared.chosen.Chosen.{Chosen}
use Rattle.rsp_report.specs.declared.contents.Watched.{Watched}

-- times are sorted, and at most 2^48
pub record IsWatched (watched : Watched) : Type 0 where
  pub sorted : IsNonDecreasing watched.times
  pub high : All (λ time. time ≤ 2 ^ 48) watched.times

-- a list that ends with the item just accepted has its time as the last
abbrev pub IsFreshAt : ℕ → Watched → Type 0
IsFreshAt t watched = watched.fresh ≡ true → slice_get watched.times (length watched.times - 1) ≡ Some t

-- an item is in the content at t and not at the instant before, or the other way round
abbrev pub changes : ℕ → Watched → Bool
changes t w =
    list_any (λ time. not (beq (in_content w.window t time) (in_content w.window (t - 1) time))) w.times

abbrev pub has_content : ℕ → Watched → Bool
has_content t w = list_any (in_content w.window t) w.times

-- the item just accepted, of time t, is in the content
abbrev pub shows_new : ℕ → Watched → Bool
shows_new t w = w.fresh && in_content w.window t t

-- a query that looks at instants is due at t: each strategy that is asked for holds, by some window, and the period divides t
abbrev pub is_due : Chosen → List Watched → ℕ → Bool
is_due policy watched t =
    (not policy.close || list_any (λ (w : Watched). closes_at w.window t) watched)
    && ((not policy.change || list_any (changes t) watched)
    && ((not policy.nonempty || list_any (has_content t) watched)
    && option_map_or (λ period. t % period == 0) policy.period true))

-- a query that looks at items is due on an item of time t over one of its streams
abbrev pub is_due_on_item : Chosen → List Watched → ℕ → Bool
is_due_on_item policy watched t =
    (not policy.change || list_any (shows_new t) watched) && (not policy.nonempty || list_any (has_content t) watched)
