-- What one more item adds to the times that a query watches.
use Rattle.std.proofs.Common.{◌≡◌, ℕ, ◌≤◌, Bool, true, false, cond, List, [], ◌∷◌, ◌++◌, length, map, filter, refl, sym, ap, ◌∙◌}
use Rattle.std.specs.Prelude.{bytes_eq}
use Rattle.std.proofs.lemmas.List.{drop-append-le}
use Rattle.rsp_report.specs.declared.contents.Watched.{Watched}
use Rattle.rsp_scope.specs.Contents.{Accepted}
use Rattle.rsp_engine.specs.World.{Registration}
use Rattle.rsp_engine.specs.declared.live_query.StreamWindow.{StreamWindow}
use Rattle.rsp_engine.specs.Due.{is_over, watched_window}
use Rattle.rsp_engine.specs.Seeing.{visible_items}
use Rattle.rsp_engine.specs.Watching.{Tells, told_at, with_time}
use Rattle.rsp_engine.specs.Watched.{AreWatchedWith}
use Rattle.rsp_engine.proofs.Named.{last_of}
use Rattle.rsp_engine.proofs.Telling.{same_with}

-- ---- one window

abbrev time_of : Accepted → ℕ
time_of item = item.time

times_last : (w : StreamWindow) (items : List Accepted) (item : Accepted) → map time_of (filter (is_over w) (items ++ item ∷ []))
    ≡ cond (is_over w item) (map time_of (filter (is_over w) items) ++ item.time ∷ []) (map time_of (filter (is_over w) items))
times_last w [] item = elim (is_over w item) as (λ b. map time_of (cond b (item ∷ []) []) ≡ cond b (item.time ∷ []) []) [ true ↦ refl | false ↦ refl ]
times_last w (x ∷ items) item = by (is_over w x) (times_last w items item)
  where
    first : Bool → List Accepted → List ℕ
    first b rest = map time_of (cond b (x ∷ rest) rest)

    by : (b : Bool)
        → map time_of (filter (is_over w) (items ++ item ∷ []))
        ≡ cond (is_over w item) (map time_of (filter (is_over w) items) ++ item.time ∷ []) (map time_of (filter (is_over w) items))
        → first b (filter (is_over w) (items ++ item ∷ []))
        ≡ cond (is_over w item) (first b (filter (is_over w) items) ++ item.time ∷ []) (first b (filter (is_over w) items))
    by true rest = ap (λ ts. x.time ∷ ts) rest ∙ pulled (is_over w item)
      where
        pulled : (c : Bool) → x.time ∷ cond c (map time_of (filter (is_over w) items) ++ item.time ∷ []) (map time_of (filter (is_over w) items))
            ≡ cond c (x.time ∷ (map time_of (filter (is_over w) items) ++ item.time ∷ [])) (x.time ∷ map time_of (filter (is_over w) items))
        pulled true = refl
        pulled false = refl
    by false rest = rest

-- the newest item's time comes to the window, where the item is over its stream
pub watched_last : (w : StreamWindow) (items : List Accepted) (item : Accepted)
    → with_time (is_over w item) item.time (watched_window items w) ≡ watched_window (items ++ item ∷ []) w
watched_last w items item =
    rw (times_last w items item, last_of items item) refl

-- ---- all windows of a query

first_same : {X : Type 0} (x y : X) (xs ys : List X) → x ∷ xs ≡ y ∷ ys → (x ≡ y) × (xs ≡ ys)
first_same x y xs ys same = (cc, cc)

module _ (stream : List ℕ) (time from t : ℕ) (late : from ≤ t) (items : List Accepted) (item : Accepted)
    (over : item.stream ≡ stream) (at : item.time ≡ time) where
  told_each : (windows : List StreamWindow) (olds news : List Watched) → AreWatchedWith stream time from windows olds news
      → map (told_at t) olds ≡ map (told_at t) (map (watched_window items) windows)
      → map (told_at t) news ≡ map (told_at t) (map (watched_window (items ++ item ∷ [])) windows)
  told_each [] [] [] are told = refl
  told_each (w ∷ ws) (old ∷ olds) (new ∷ news) are told =
      let parts = first_same _ _ _ _ told in
      let last : with_time (bytes_eq stream w.stream) time (watched_window items w) ≡ watched_window (items ++ item ∷ []) w =
      (λ k. with_time (bytes_eq (sym over k) w.stream) (sym at k) (watched_window items w)) ∙ watched_last w items item in
      let first : told_at t new ≡ told_at t (watched_window (items ++ item ∷ []) w) =
      are.0.told t late
      ∙ (same_with (bytes_eq stream w.stream) time t old (watched_window items w) parts.0 ∙ ap (told_at t) last) in
      (λ k. first k ∷ told_each ws olds news are.1 parts.1 k)
  told_each [] (old ∷ olds) news are told = absurd are
  told_each [] [] (new ∷ news) are told = absurd are
  told_each (w ∷ ws) [] news are told = absurd are
  told_each (w ∷ ws) (old ∷ olds) [] are told = absurd are

-- what told of the items tells of the new one too
pub tells_more : (stream : List ℕ) (time from : ℕ) (items : List Accepted) (item : Accepted) (query : Registration) (olds news : List Watched)
    → item.stream ≡ stream → item.time ≡ time → query.first ≤ length items
    → map (λ (w : Watched). w.window) news ≡ map (λ (w : Watched). w.window) olds
    → AreWatchedWith stream time from query.reading.windows olds news
    → Tells items from query olds → Tells (items ++ item ∷ []) from query news
tells_more stream time from items item query olds news over at first shapes are told = record {
  windows = shapes ∙ told.windows;
  told = λ asks t late.
      told_each stream time from t late (visible_items items query.first) item over at query.reading.windows olds news are (told.told asks t late)
      ∙ ap (λ seen. map (told_at t) (map (watched_window seen) query.reading.windows)) (sym (drop-append-le query.first items (item ∷ []) first));
}
