-- Words of the way: what queries watch once an item has come over a stream.
use Rattle.std.specs.Prelude.{◌≡◌, ℕ, ◌≤◌, ◌<◌, Bool, true, false, List, [], ◌∷◌, ⊤, length, map, slice_index_or, bytes_eq}
use Rattle.rsp_report.specs.declared.contents.Watched.{Watched}
use Rattle.rsp_report.specs.Due.{IsFreshAt, IsWatched}
use Rattle.rsp_engine.specs.declared.live_query.LiveQuery.{LiveQuery}
use Rattle.rsp_engine.specs.declared.live_query.StreamWindow.{StreamWindow}
use Rattle.rsp_engine.specs.Inside.{IsSought, parts_of}
use Rattle.rsp_engine.specs.Watching.{IsUpTo, told_at, with_time}

-- a window with the time of a new item at its place, where that is over its stream, and without times that are in no content from
-- `from` - 1 on; where none was later, the new one is the last
pub record IsWatchedWith (stream : List ℕ) (time from : ℕ) (w : StreamWindow) (old new : Watched) : Type 0 where
  pub window : new.window ≡ old.window
  pub watched : IsWatched new
  pub up_to : (latest : ℕ) → time ≤ latest → IsUpTo latest old → IsUpTo latest new
  pub fresh : IsUpTo time old → IsFreshAt time new
  pub told : (t : ℕ) → from ≤ t → told_at t new ≡ told_at t (with_time (bytes_eq stream w.stream) time old)

-- window by window
abbrev pub AreWatchedWith : List ℕ → ℕ → ℕ → List StreamWindow → List Watched → List Watched → Type 0
AreWatchedWith stream time from [] [] [] = ⊤
AreWatchedWith stream time from (w ∷ ws) (old ∷ olds) (new ∷ news) =
    IsWatchedWith stream time from w old new × AreWatchedWith stream time from ws olds news
AreWatchedWith stream time from _ _ _ = ⊥

-- all of a query but its times is the same, it watches its windows with the item, and it is known when it is due next, from
-- `from` on
pub record IsMoved {A : Type 0} (stream : List ℕ) (time from : ℕ) (old new : LiveQuery A) : Type 0 where
  pub parts : parts_of new ≡ parts_of old
  pub watched : AreWatchedWith stream time from old.windows old.watched.items new.watched.items
  pub sought : IsSought from new

-- a window that isn't fresh
abbrev pub calmed : Watched → Watched
calmed w = record { window = w.window; times = w.times; fresh = false }

-- a query whose windows aren't fresh any more
pub record IsCalmed {A : Type 0} (old new : LiveQuery A) : Type 0 where
  pub parts : parts_of new ≡ parts_of old
  pub watched : new.watched.items ≡ map calmed old.watched.items
  pub due : new.due ≡ old.due

-- those that pass changed so, the others not
pub record AreChanged {X : Type 0} (test : X → Bool) (R : X → X → Type 0) (olds news : List X) : Type 0 where
  pub long : length news ≡ length olds
  pub there : (k : ℕ) (d : X) → k < length olds → test (slice_index_or olds k d) ≡ true
      → R (slice_index_or olds k d) (slice_index_or news k d)
  pub elsewhere : (k : ℕ) (d : X) → k < length olds → test (slice_index_or olds k d) ≡ false
      → slice_index_or news k d ≡ slice_index_or olds k d
