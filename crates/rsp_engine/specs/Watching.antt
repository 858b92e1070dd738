-- Words of the way: what a live query watches: the times of the items over the streams of its windows, and when it reports by
-- them.
use Rattle.std.specs.Prelude.{◌≡◌, ℕ, ◌-◌, ◌<◌, ◌≤◌, Bool, true, false, ◌&&◌, ◌||◌, not, nat_lt, if◌then◌else◌, Option, None, List, [], ◌∷◌, ◌++◌, map, bytes_eq}
use Rattle.std.specs.List.{All, list_any}
use Rattle.std.specs.Option.{ForSome, is_some, option_map_or}
use Rattle.rsp_scope.specs.Contents.{Accepted}
use Rattle.rsp_report.specs.declared.chosen.Chosen.{Chosen}
use Rattle.rsp_report.specs.declared.contents.Watched.{Watched}
use Rattle.rsp_report.specs.Due.{IsFreshAt, IsWatched}
use Rattle.rsp_spec.specs.Windows.{Shape, in_content}
use Rattle.rsp_report.specs.Due as windows
use Rattle.rsp_engine.specs.declared.live_query.StreamWindow.{StreamWindow}
use Rattle.rsp_engine.specs.Due.{watched_of}
use Rattle.rsp_engine.specs.World.{Registration}

-- what decides when a live query reports
pub record Asked : Type 0 where
  pub name : List ℕ
  pub policy : Chosen
  pub windows : List StreamWindow
  pub watched : List Watched

abbrev pub name_of : Asked → List ℕ
name_of asked = asked.name

-- a policy asks for contents: it looks at items, at changes of contents, or at contents that aren't empty; by any other the
-- windows alone decide when a query is due
abbrev pub asks_contents : Chosen → Bool
asks_contents policy = policy.tuple || (policy.change || policy.nonempty)

-- a window with the time of a new item, where that is over its stream
abbrev pub with_time : Bool → ℕ → Watched → Watched
with_time over time w =
    record {
      window = w.window;
      times = if over then w.times ++ time ∷ [] else w.times;
      fresh = over;
    }

-- a query that looks at instants is due at t
abbrev pub is_due_by : Asked → ℕ → Bool
is_due_by asked t = not asked.policy.tuple && windows.is_due asked.policy asked.watched t

-- a query that looks at items is due at t on the newest item, which came over this stream
abbrev pub is_due_over_by : Asked → List ℕ → ℕ → Bool
is_due_over_by asked stream t =
    asked.policy.tuple
    && (list_any (λ w. bytes_eq stream w.stream) asked.windows
    && windows.is_due_on_item asked.policy asked.watched t)

-- whether a query reports at t: below `next` by the instant, at `next` itself by an item that just arrived over this stream
abbrev pub reports_by : ℕ → Option (List ℕ) → ℕ → Asked → Bool
reports_by next arrived t asked =
    if nat_lt t next
    then is_due_by asked t
    else option_map_or (λ stream. is_due_over_by asked stream next) arrived false

-- a period is at least 1 ms, and a policy that looks at items asks for no closing and no period
pub record IsPolicy (policy : Chosen) : Type 0 where
  pub period : ForSome policy.period (λ period. 0 < period)
  pub close_on_items : policy.tuple ≡ true → policy.close ≡ false
  pub period_on_items : policy.tuple ≡ true → policy.period ≡ None

-- a live query watches each of its windows, with its times in order
pub record IsWatching (asked : Asked) : Type 0 where
  pub policy : IsPolicy asked.policy
  pub shapes : map (λ (watched : Watched). watched.window) asked.watched ≡ map (λ (w : StreamWindow). w.shape) asked.windows
  pub watched : All IsWatched asked.watched

-- and the times of a window that is fresh end with `next`, where an item arrived
pub record IsPrompt (next : ℕ) (arrived : Option (List ℕ)) (asked : Asked) : Type 0 where
  pub watching : IsWatching asked
  pub fresh : is_some arrived ≡ true → All (IsFreshAt next) asked.watched

-- none of a window's times is later
abbrev pub IsUpTo : ℕ → Watched → Type 0
IsUpTo latest w = All (λ time. time ≤ latest) w.times

-- all that decides by a window whether a query is due at t: whether some item is in its content at t, whether one is that wasn't at
-- the instant before, whether one isn't that was, and whether it is fresh. The order of the times is none of it.
pub record Told : Type 0 where
  pub window : Shape
  pub holds : Bool
  pub enters : Bool
  pub leaves : Bool
  pub fresh : Bool

abbrev pub enters_at : ℕ → Watched → Bool
enters_at t w = list_any (λ time. in_content w.window t time && not (in_content w.window (t - 1) time)) w.times

abbrev pub leaves_at : ℕ → Watched → Bool
leaves_at t w = list_any (λ time. not (in_content w.window t time) && in_content w.window (t - 1) time) w.times

abbrev pub told_at : ℕ → Watched → Told
told_at t w =
    record {
      window = w.window;
      holds = windows.has_content t w;
      enters = enters_at t w;
      leaves = leaves_at t w;
      fresh = w.fresh;
    }

-- a query watches its windows, and where its policy asks for contents, from an instant on its times tell of each of them what those
-- of these items tell
pub record Tells (items : List Accepted) (from : ℕ) (query : Registration) (watched : List Watched) : Type 0 where
  pub windows : map (λ (w : Watched). w.window) watched ≡ map (λ (w : StreamWindow). w.shape) query.reading.windows
  pub told : asks_contents query.reading.policy ≡ true → (t : ℕ) → from ≤ t
      → map (told_at t) watched ≡ map (told_at t) (watched_of items query)
