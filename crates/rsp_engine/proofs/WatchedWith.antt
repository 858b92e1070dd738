-- A query's windows, one after another, as they are watched with a new item.
use Rattle.std.proofs.Common.{◌≡◌, ℕ, zero, suc, ◌+◌, ◌<◌, ◌≤◌, List, [], ◌∷◌, ◌++◌, Bool, true, false, Some, length, map, set, get_or, refl, sym, ap, subst, ◌∙◌, arith, add-one}
use Rattle.std.specs.Prelude.{bytes_eq, slice_get}
use Rattle.std.specs.List.{All}
use Rattle.std.specs.Option.{option_map_or}
use Rattle.std.proofs.lemmas.List.{length-map, nil_from_length}
use Rattle.std.proofs.lemmas.List.Elements.{All-cons, All-head, All-nil, All-tail}
use Rattle.rsp_report.specs.declared.contents.Watched.{Watched}
use Rattle.rsp_report.specs.Due.{IsFreshAt, IsWatched}
use Rattle.rsp_engine.specs.declared.live_query.LiveQuery.{LiveQuery}
use Rattle.rsp_engine.specs.declared.live_query.StreamWindow.{StreamWindow}
use Rattle.rsp_scope.specs.Contents.{Accepted}
use Rattle.rsp_engine.specs.Inside.{IsSought, Parts, asked, fixed, parts_of}
use Rattle.rsp_engine.specs.Watching.{IsPolicy, IsUpTo, IsWatching, Tells, asks_contents, told_at, with_time}
use Rattle.rsp_engine.specs.Watched.{AreWatchedWith, IsCalmed, IsMoved, IsWatchedWith}
use Rattle.rsp_engine.proofs.Calmed.{calmed_fresh, calmed_tells, calmed_up_to, calmed_watching}
use Rattle.rsp_engine.proofs.DueNext.{calmed_sought}
use Rattle.rsp_engine.proofs.NewTimes.{tells_more}

-- lists that are read alike, place by place
pub same_by : {X Y : Type 0} (f : X → Y) (olds news : List X) → length news ≡ length olds
    → ((k : ℕ) (d : X) → k < length olds → f (get_or news k d) ≡ f (get_or olds k d)) → map f news ≡ map f olds
same_by f [] [] long same = refl
same_by f [] (new ∷ news) long same = absurd (omega (arith, long))
same_by f (old ∷ olds) [] long same = absurd (omega (arith, long))
same_by f (old ∷ olds) (new ∷ news) long same =
    let first : f new ≡ f old = same 0 old (omega arith) in
    let rest : map f news ≡ map f olds = same_by f olds news (omega (arith, long)) (λ k d within. same (suc k) d (omega (arith, within))) in
    (λ i. first i ∷ rest i)

module _ (stream : List ℕ) (time from : ℕ) where
  -- the first i windows are watched with the item, the others as before
  abbrev pub AreSoFar : ℕ → List StreamWindow → List Watched → List Watched → Type 0
  AreSoFar zero ws olds news = (news ≡ olds) × (length ws ≡ length olds)
  AreSoFar (suc i) (w ∷ ws) (old ∷ olds) (new ∷ news) = IsWatchedWith stream time from w old new × AreSoFar i ws olds news
  AreSoFar (suc i) _ _ _ = ⊥

  pub so_far_at : (i : ℕ) (ws : List StreamWindow) (olds news : List Watched) (d : Watched) → AreSoFar i ws olds news
      → get_or news i d ≡ get_or olds i d
  so_far_at zero ws olds news d are = ap (λ l. get_or l 0 d) are.0
  so_far_at (suc i) (w ∷ ws) (old ∷ olds) (new ∷ news) d are = so_far_at i ws olds news d are.1
  so_far_at (suc i) [] olds news d are = absurd are
  so_far_at (suc i) (w ∷ ws) [] news d are = absurd are
  so_far_at (suc i) (w ∷ ws) (old ∷ olds) [] d are = absurd are

  pub so_far_long : (i : ℕ) (ws : List StreamWindow) (olds news : List Watched) → AreSoFar i ws olds news → length news ≡ length olds
  so_far_long zero ws olds news are = ap length are.0
  so_far_long (suc i) (w ∷ ws) (old ∷ olds) (new ∷ news) are = ap suc (so_far_long i ws olds news are.1)
  so_far_long (suc i) [] olds news are = absurd are
  so_far_long (suc i) (w ∷ ws) [] news are = absurd are
  so_far_long (suc i) (w ∷ ws) (old ∷ olds) [] are = absurd are

  so_far_next : (i : ℕ) (ws : List StreamWindow) (olds news : List Watched) (d new : Watched) → AreSoFar i ws olds news → i < length olds
      → ((w : StreamWindow) → slice_get ws i ≡ Some w → IsWatchedWith stream time from w (get_or olds i d) new)
      → AreSoFar (suc i) ws olds (set news i new)
  so_far_next zero (w ∷ ws) (old ∷ olds) (x ∷ news) d new are below is = (is w refl, (cc, omega (arith, are.1)))
  so_far_next zero [] (old ∷ olds) news d new are below is = absurd (omega (arith, are.1))
  so_far_next zero ws [] news d new are below is = absurd (omega (arith, below))
  so_far_next zero (w ∷ ws) (old ∷ olds) [] d new are below is = absurd (cc)
  so_far_next (suc i) (w ∷ ws) (old ∷ olds) (x ∷ news) d new are below is =
      (are.0, so_far_next i ws olds news d new are.1 (omega (arith, below)) is)
  so_far_next (suc i) [] olds news d new are below is = absurd are
  so_far_next (suc i) (w ∷ ws) [] news d new are below is = absurd are
  so_far_next (suc i) (w ∷ ws) (old ∷ olds) [] d new are below is = absurd are

  -- ---- the window of number i

  module _ (i : ℕ) (ws : List StreamWindow) (olds news : List Watched) (one : Watched) (are : AreSoFar i ws olds news)
      (below : i < length news) (is : one ≡ get_or news i one) where
    -- it is as it was
    as_before : one ≡ get_or olds i one
    as_before = is ∙ so_far_at i ws olds news one are

    pub watched_before : All IsWatched olds → IsWatched one
    watched_before watched =
        let inside : i < length olds = omega (arith, below, so_far_long i ws olds news are) in
        subst IsWatched (sym as_before) (watched i one inside)

    -- and is then watched with the item
    pub more_so_far : (over : Bool) (new : Watched) → over ≡ option_map_or (λ (w : StreamWindow). bytes_eq stream w.stream) (slice_get ws i) false
        → new.window ≡ one.window → IsWatched new → ((latest : ℕ) → time ≤ latest → IsUpTo latest one → IsUpTo latest new)
        → (IsUpTo time one → IsFreshAt time new)
        → ((t : ℕ) → from ≤ t → told_at t new ≡ told_at t (with_time over time one))
        → AreSoFar (i + 1) ws olds (set news i new)
    more_so_far over new over_is window watched up_to fresh told =
        let inside : i < length olds = omega (arith, below, so_far_long i ws olds news are) in
        subst (λ n. AreSoFar n ws olds (set news i new)) (sym (add-one i))
        (so_far_next i ws olds news one new are inside
        (λ w at.
        let same : over ≡ bytes_eq stream w.stream =
        over_is ∙ ap (λ o. option_map_or (λ (v : StreamWindow). bytes_eq stream v.stream) o false) at in
        subst (λ old. IsWatchedWith stream time from w old new) as_before
        (record {
          window = window;
          watched = watched;
          up_to = up_to;
          fresh = fresh;
          told = λ t late. told t late ∙ ap (λ b. told_at t (with_time b time one)) same;
        })))

  pub all_so_far : (i : ℕ) (ws : List StreamWindow) (olds news : List Watched) → AreSoFar i ws olds news → length olds ≤ i
      → AreWatchedWith stream time from ws olds news
  all_so_far zero ws olds news are end =
      let no_olds : olds ≡ [] = nil_from_length olds (omega (arith, end)) in
      let no_windows : ws ≡ [] = nil_from_length ws (omega (arith, end, are.1)) in
      let no_news : news ≡ [] = are.0 ∙ no_olds in
      rw (no_olds, no_windows, no_news) tt
  all_so_far (suc i) (w ∷ ws) (old ∷ olds) (new ∷ news) are end = (are.0, all_so_far i ws olds news are.1 (omega (arith, end)))
  all_so_far (suc i) [] olds news are end = absurd are
  all_so_far (suc i) (w ∷ ws) [] news are end = absurd are
  all_so_far (suc i) (w ∷ ws) (old ∷ olds) [] are end = absurd are

  -- ---- what all windows have

  same_shapes : (ws : List StreamWindow) (olds news : List Watched) → AreWatchedWith stream time from ws olds news
      → map (λ (watched : Watched). watched.window) news ≡ map (λ (watched : Watched). watched.window) olds
  same_shapes [] [] [] are = refl
  same_shapes (w ∷ ws) (old ∷ olds) (new ∷ news) are = λ k. are.0.window k ∷ same_shapes ws olds news are.1 k
  same_shapes [] (old ∷ olds) news are = absurd are
  same_shapes [] [] (new ∷ news) are = absurd are
  same_shapes (w ∷ ws) [] news are = absurd are
  same_shapes (w ∷ ws) (old ∷ olds) [] are = absurd are

  -- what holds of each new one, where something held of each old one
  all_new : (Q P : Watched → Type 0) → ((w : StreamWindow) (old new : Watched) → IsWatchedWith stream time from w old new → Q old → P new)
      → (ws : List StreamWindow) (olds news : List Watched) → AreWatchedWith stream time from ws olds news → All Q olds → All P news
  all_new Q P each [] [] [] are held = All-nil P
  all_new Q P each (w ∷ ws) (old ∷ olds) (new ∷ news) are held =
      All-cons P new news (each w old new are.0 (All-head Q old olds held)) (all_new Q P each ws olds news are.1 (All-tail Q old olds held))
  all_new Q P each [] (old ∷ olds) news are held = absurd are
  all_new Q P each [] [] (new ∷ news) are held = absurd are
  all_new Q P each (w ∷ ws) [] news are held = absurd are
  all_new Q P each (w ∷ ws) (old ∷ olds) [] are held = absurd are

  pub all_watched : (ws : List StreamWindow) (olds news : List Watched) → AreWatchedWith stream time from ws olds news
      → All IsWatched olds → All IsWatched news
  all_watched ws olds news are watched = all_new IsWatched IsWatched (λ w old new each was. each.watched) ws olds news are watched

  -- ---- a live query

  module _ {A : Type 0} (old new : LiveQuery A) (moved : IsMoved stream time from old new) where
    pub moved_watching : IsWatching (asked old) → IsWatching (asked new)
    moved_watching is = record {
      policy = subst (λ (p : Parts A). IsPolicy p.query.reading.policy) (sym moved.parts) is.policy;
      shapes = same_shapes old.windows old.watched.items new.watched.items moved.watched
          ∙ (is.shapes ∙ ap (λ (p : Parts A). map (λ (w : StreamWindow). w.shape) p.query.reading.windows) (sym moved.parts));
      watched = all_watched old.windows old.watched.items new.watched.items moved.watched is.watched;
    }

    pub moved_up_to : (latest : ℕ) → time ≤ latest → All (IsUpTo latest) old.watched.items → All (IsUpTo latest) new.watched.items
    moved_up_to latest low up_to =
        all_new (IsUpTo latest) (IsUpTo latest) (λ w old new each was. each.up_to latest low was)
        old.windows old.watched.items new.watched.items moved.watched up_to

    pub moved_fresh : All (IsUpTo time) old.watched.items → All (IsFreshAt time) new.watched.items
    moved_fresh up_to =
        all_new (IsUpTo time) (IsFreshAt time) (λ w old new each was. each.fresh was)
        old.windows old.watched.items new.watched.items moved.watched up_to

    pub moved_tells : (items : List Accepted) (item : Accepted) → item.stream ≡ stream → item.time ≡ time → old.first ≤ length items
        → Tells items from (fixed old) old.watched.items → Tells (items ++ item ∷ []) from (fixed new) new.watched.items
    moved_tells items item over at first told =
        subst (λ (p : Parts A). Tells (items ++ item ∷ []) from p.query new.watched.items) (sym moved.parts)
        (tells_more stream time from items item (fixed old) old.watched.items new.watched.items over at first
        (same_shapes old.windows old.watched.items new.watched.items moved.watched) moved.watched told)

  -- ---- the live queries, one after another

  module _ {A : Type 0} (olds news : List (LiveQuery A)) where
    -- each one that asks for contents watches the item, and the others have nothing fresh
    pub record AreMoved : Type 0 where
      pub long : length news ≡ length olds
      pub asking : (k : ℕ) (d : LiveQuery A) → k < length olds → asks_contents (get_or olds k d).policy ≡ true
          → IsMoved stream time from (get_or olds k d) (get_or news k d)
      pub others : (k : ℕ) (d : LiveQuery A) → k < length olds → asks_contents (get_or olds k d).policy ≡ false
          → IsCalmed (get_or olds k d) (get_or news k d)

    module _ (are : AreMoved) where
      -- what holds in either case
      each : (R : LiveQuery A → LiveQuery A → Type 0) → ((old new : LiveQuery A) → IsMoved stream time from old new → R old new)
          → ((old new : LiveQuery A) → asks_contents old.policy ≡ false → IsCalmed old new → R old new)
          → (k : ℕ) (d : LiveQuery A) → k < length olds → R (get_or olds k d) (get_or news k d)
      each R moved calm k d within = by (asks_contents (get_or olds k d).policy) refl
        where
          by : (b : Bool) → asks_contents (get_or olds k d).policy ≡ b → R (get_or olds k d) (get_or news k d)
          by true asks = moved (get_or olds k d) (get_or news k d) (are.asking k d within asks)
          by false none = calm (get_or olds k d) (get_or news k d) none (are.others k d within none)

      pub all_watch : All (λ (live : LiveQuery A). IsWatching (asked live)) olds → All (λ (live : LiveQuery A). IsWatching (asked live)) news
      all_watch is k d within =
          let inside : k < length olds = omega (arith, are.long, within) in
          each (λ old new. IsWatching (asked old) → IsWatching (asked new)) (λ old new moved. moved_watching old new moved)
          (λ old new none calm. calmed_watching old new calm) k d inside (is k d inside)

      pub all_up_to : (latest : ℕ) → time ≤ latest → All (λ (live : LiveQuery A). All (IsUpTo latest) live.watched.items) olds
          → All (λ (live : LiveQuery A). All (IsUpTo latest) live.watched.items) news
      all_up_to latest low up_to k d within =
          let inside : k < length olds = omega (arith, are.long, within) in
          each (λ old new. All (IsUpTo latest) old.watched.items → All (IsUpTo latest) new.watched.items)
          (λ old new moved. moved_up_to old new moved latest low)
          (λ old new none calm. calmed_up_to old new calm latest) k d inside (up_to k d inside)

      pub all_fresh : All (λ (live : LiveQuery A). All (IsUpTo time) live.watched.items) olds
          → All (λ (live : LiveQuery A). All (IsFreshAt time) live.watched.items) news
      all_fresh up_to k d within =
          let inside : k < length olds = omega (arith, are.long, within) in
          each (λ old new. All (IsUpTo time) old.watched.items → All (IsFreshAt time) new.watched.items)
          (λ old new moved. moved_fresh old new moved)
          (λ old new none calm was. calmed_fresh old new calm time) k d inside (up_to k d inside)

      pub all_tell : (items : List Accepted) (item : Accepted) → item.stream ≡ stream → item.time ≡ time
          → All (λ (live : LiveQuery A). live.first ≤ length items) olds
          → All (λ (live : LiveQuery A). Tells items from (fixed live) live.watched.items) olds
          → All (λ (live : LiveQuery A). Tells (items ++ item ∷ []) from (fixed live) live.watched.items) news
      all_tell items item over at firsts told k d within =
          let inside : k < length olds = omega (arith, are.long, within) in
          each (λ old new. old.first ≤ length items → Tells items from (fixed old) old.watched.items
          → Tells (items ++ item ∷ []) from (fixed new) new.watched.items)
          (λ old new moved. moved_tells old new moved items item over at)
          (λ old new none calm first. calmed_tells old new calm items (items ++ item ∷ []) from none) k d inside (firsts k d inside) (told k d inside)

      pub all_due : All (λ (live : LiveQuery A). IsSought from live) olds → All (λ (live : LiveQuery A). IsSought from live) news
      all_due sought k d within =
          let inside : k < length olds = omega (arith, are.long, within) in
          each (λ old new. IsSought from old → IsSought from new) (λ old new moved was. moved.sought)
          (λ old new none calm. calmed_sought from old new calm) k d inside (sought k d inside)

      pub all_parts : map parts_of news ≡ map parts_of olds
      all_parts = same_by parts_of olds news are.long
          (λ k d within. each (λ old new. parts_of new ≡ parts_of old) (λ old new moved. moved.parts) (λ old new none calm. calm.parts) k d within)

  -- as many windows as are watched
  pub none_so_far : (windows : List StreamWindow) (watched : List Watched)
      → map (λ (w : Watched). w.window) watched ≡ map (λ (w : StreamWindow). w.shape) windows → AreSoFar 0 windows watched watched
  none_so_far windows watched shapes =
      (refl, sym (length-map windows (λ (w : StreamWindow). w.shape)) ∙ (sym (ap length shapes) ∙ length-map watched (λ (w : Watched). w.window)))
