-- Words of the way: what live queries read of each stream, and whose windows may be fresh.
use Rattle.std.specs.Prelude.{◌≡◌, ℕ, suc, ◌-◌, Bool, false, ◌&&◌, cond, not, nat_eq, nat_le, nat_lt, if◌then◌else◌, Option, List, [], ◌∷◌, ◌++◌, filter, map, bytes_eq}
use Rattle.std.specs.Global.{Vec}
use Rattle.std.specs.List.{All, list_any}
use Rattle.std.specs.Map.{lookup}
use Rattle.std.specs.Option.{option_map_or}
use Rattle.rsp_spec.specs.Windows.{is_needed}
use Rattle.rsp_report.specs.declared.contents.Watched.{Watched}
use Rattle.rsp_engine.specs.declared.live_query.LiveQuery.{LiveQuery}
use Rattle.rsp_engine.specs.declared.live_query.StreamWindow.{StreamWindow}
use Rattle.rsp_engine.specs.declared.readers.PlacedWindow.{PlacedWindow}
use Rattle.rsp_engine.specs.declared.readers.Readers.{Readers}
use Rattle.rsp_engine.specs.Watching.{asks_contents}

-- what is listed for the stream
abbrev pub list_of : {X : Type 0} → List (List ℕ × Vec X) → List ℕ → List X
list_of {X} lists stream = option_map_or (λ (listed : Vec X). listed.items) (lookup (bytes_eq stream) lists) []

abbrev pub watchers_of : Readers → List ℕ → List ℕ
watchers_of readers stream = list_of readers.watchers.entries stream

abbrev pub windows_of : Readers → List ℕ → List PlacedWindow
windows_of readers stream = list_of readers.windows.entries stream

-- some of these windows is over the stream
abbrev pub reads : List ℕ → List StreamWindow → Bool
reads stream windows = list_any (λ (w : StreamWindow). bytes_eq stream w.stream) windows

-- the places of those that pass, where the first stands at n
abbrev pub places_from : {X : Type 0} → (X → Bool) → ℕ → List X → List ℕ
places_from test n [] = []
places_from test n (x ∷ xs) = cond (test x) (n ∷ places_from test (suc n) xs) (places_from test (suc n) xs)

-- those of these windows that are over the stream, for a query at this place that sees the items from number `first` on
abbrev pub placed : List ℕ → ℕ → ℕ → List StreamWindow → List PlacedWindow
placed stream place first windows =
    map (λ (w : StreamWindow). record { place = place; first = first; shape = w.shape })
    (filter (λ (w : StreamWindow). bytes_eq stream w.stream) windows)

-- the window needs an item of this number and time over its stream at n or later
abbrev pub needs : ℕ → ℕ → ℕ → PlacedWindow → Bool
needs n number time window = nat_le window.first number && is_needed window.shape time n

-- until when an item of this number and time is needed by these windows over its stream
abbrev pub IsEndBy : List PlacedWindow → ℕ → ℕ → Option ℕ → Type 0
IsEndBy windows number time end =
    (n : ℕ) → list_any (needs n number time) windows ≡ option_map_or (λ e. nat_le n e) end false

-- ---- once a query is taken out

-- another place, of which those behind the query's are one lower
abbrev pub lowered : ℕ → ℕ → ℕ
lowered place other = if nat_lt place other then other - 1 else other

abbrev pub without : ℕ → List ℕ → List ℕ
without place places = map (lowered place) (filter (λ other. not (nat_eq other place)) places)

abbrev pub lowered_window : ℕ → PlacedWindow → PlacedWindow
lowered_window place window = record window { place = lowered place window.place }

abbrev pub without_windows : ℕ → List PlacedWindow → List PlacedWindow
without_windows place windows =
    map (lowered_window place) (filter (λ (window : PlacedWindow). not (nat_eq window.place place)) windows)

-- ---- the live queries

-- a query whose policy asks for contents, with a window over the stream
abbrev pub is_watcher : {A : Type 0} → List ℕ → LiveQuery A → Bool
is_watcher stream live = asks_contents live.policy && reads stream live.windows

-- the windows of the queries over the stream, where the first query stands at n
abbrev pub placed_from : {A : Type 0} → List ℕ → ℕ → List (LiveQuery A) → List PlacedWindow
placed_from stream n [] = []
placed_from stream n (live ∷ queries) = placed stream n live.first live.windows ++ placed_from stream (suc n) queries

-- no window is fresh
abbrev pub IsCalm : List Watched → Type 0
IsCalm watched = All (λ (w : Watched). w.fresh ≡ false) watched

-- a query that doesn't watch the newest item's stream has no fresh window
abbrev pub IsStill : {A : Type 0} → Option (List ℕ) → LiveQuery A → Type 0
IsStill newest live = option_map_or (λ stream. is_watcher stream live) newest false ≡ false → IsCalm live.watched.items

-- for each stream those that watch it are known, and the windows over it; and the first alone may have fresh windows
pub record AreRead {A : Type 0} (readers : Readers) (queries : List (LiveQuery A)) : Type 0 where
  pub watchers : (stream : List ℕ) → watchers_of readers stream ≡ places_from (is_watcher stream) 0 queries
  pub windows : (stream : List ℕ) → windows_of readers stream ≡ placed_from stream 0 queries
  pub still : All (IsStill readers.newest) queries
