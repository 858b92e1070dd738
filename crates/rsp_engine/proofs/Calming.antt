-- What queries watch with an item, once none but those that watch its stream may have fresh windows.
use Rattle.std.proofs.Common.{◌≡◌, ℕ, suc, ◌<◌, ◌≤◌, Bool, true, false, ◌||◌, ◌&&◌, true≢false, Some, List, [], ◌∷◌, length, map, get_or, refl, sym, ap, subst, ◌∙◌, arith, bytes_eq}
use Rattle.std.specs.List.{All}
use Rattle.std.proofs.lemmas.List.{length-map}
use Rattle.rsp_report.specs.declared.contents.Watched.{Watched}
use Rattle.rsp_report.specs.Due.{IsWatched}
use Rattle.rsp_engine.specs.declared.live_query.LiveQuery.{LiveQuery}
use Rattle.rsp_engine.specs.declared.live_query.StreamWindow.{StreamWindow}
use Rattle.rsp_engine.specs.Inside.{IsSought, Parts, asked, parts_of}
use Rattle.rsp_engine.specs.Readers.{IsCalm, IsStill, is_watcher, reads}
use Rattle.rsp_engine.specs.Watched.{AreChanged, AreWatchedWith, IsCalmed, IsMoved, IsWatchedWith, calmed}
use Rattle.rsp_engine.specs.Watching.{IsWatching, asks_contents, told_at, with_time}
use Rattle.rsp_engine.proofs.Calmed.{all_calm, calm_is, calmed_watching, still_watched}
use Rattle.rsp_engine.proofs.DueNext.{calmed_sought}
use Rattle.rsp_engine.proofs.ReadAlike.{is_watching}
use Rattle.rsp_engine.proofs.WatchedWith.{AreMoved}

-- ---- windows

both_false : (a b : Bool) → (a || b) ≡ false → (a ≡ false) × (b ≡ false)
both_false true b h = absurd (true≢false h)
both_false false b h = (refl, h)

module _ (stream : List ℕ) (time from : ℕ) where
  -- windows over other streams, once they aren't fresh, watch the item
  others_watch : (ws : List StreamWindow) (olds : List Watched) → length ws ≡ length olds → All IsWatched olds → reads stream ws ≡ false
      → AreWatchedWith stream time from ws olds (map calmed olds)
  others_watch [] [] long watched none = tt
  others_watch [] (old ∷ olds) long watched none = absurd (omega (arith, long))
  others_watch (w ∷ ws) [] long watched none = absurd (omega (arith, long))
  others_watch (w ∷ ws) (old ∷ olds) long watched none =
      let parts = both_false (bytes_eq stream w.stream) (reads stream ws) none in
      let first : IsWatchedWith stream time from w old (calmed old) = record {
        window = refl;
        watched = still_watched old (watched 0 old (omega arith));
        up_to = λ latest low early. early;
        fresh = λ early is. absurd (true≢false (sym is));
        told = λ t late. ap (λ b. told_at t (with_time b time old)) (sym parts.0);
      } in
      (first, others_watch ws olds (omega (arith, long)) (λ k d within. watched (suc k) d (omega (arith, within))) parts.1)

  -- windows watch the item as those that aren't fresh do
  uncalmed : (ws : List StreamWindow) (olds news : List Watched) → AreWatchedWith stream time from ws (map calmed olds) news
      → AreWatchedWith stream time from ws olds news
  uncalmed [] [] [] are = tt
  uncalmed (w ∷ ws) (old ∷ olds) (new ∷ news) are =
      let first : IsWatchedWith stream time from w old new =
      record { window = are.0.window; watched = are.0.watched; up_to = are.0.up_to; fresh = are.0.fresh; told = are.0.told } in
      (first, uncalmed ws olds news are.1)
  uncalmed [] (old ∷ olds) news are = absurd are
  uncalmed [] [] (new ∷ news) are = absurd are
  uncalmed (w ∷ ws) [] news are = absurd are
  uncalmed (w ∷ ws) (old ∷ olds) [] are = absurd are

  -- ---- one query

  module _ {A : Type 0} where
    other_moved : (old new : LiveQuery A) → IsCalmed old new → IsWatching (asked old) → IsSought from old → reads stream old.windows ≡ false
        → IsMoved stream time from old new
    other_moved old new is watching sought none =
        let long : length old.windows ≡ length old.watched.items =
        sym (length-map old.windows (λ (w : StreamWindow). w.shape)) ∙ (sym (ap length watching.shapes) ∙ length-map old.watched.items (λ (w : Watched). w.window)) in
        record {
          parts = is.parts;
          watched = subst (AreWatchedWith stream time from old.windows old.watched.items) (sym is.watched)
              (others_watch old.windows old.watched.items long watching.watched none);
          sought = calmed_sought from old new is sought;
        }

    watcher_moved : (old between new : LiveQuery A) → IsCalmed old between → IsMoved stream time from between new → IsMoved stream time from old new
    watcher_moved old between new is moved = record {
      parts = moved.parts ∙ is.parts;
      watched = uncalmed old.windows old.watched.items new.watched.items
          (subst (λ (p : Parts A). AreWatchedWith stream time from p.query.reading.windows (map calmed old.watched.items) new.watched.items) is.parts
          (subst (λ ws. AreWatchedWith stream time from between.windows ws new.watched.items) is.watched moved.watched));
      sought = moved.sought;
    }

    -- ---- all queries

    module _ (olds between news : List (LiveQuery A)) (long : length between ≡ length olds)
        (calm : (k : ℕ) (d : LiveQuery A) → k < length olds → IsCalmed (get_or olds k d) (get_or between k d))
        (changed : AreChanged (is_watcher stream) (IsMoved stream time from) between news) where
      same_watcher : (k : ℕ) (d : LiveQuery A) → k < length olds → is_watcher stream (get_or between k d) ≡ is_watcher stream (get_or olds k d)
      same_watcher k d within = ap (λ (p : Parts A). is_watching stream p.query) (calm k d within).parts

      pub all_moved : All (λ live. IsWatching (asked live)) olds → All (λ live. IsSought from live) olds → AreMoved stream time from olds news
      all_moved watching sought = record {
        long = changed.long ∙ long;
        asking = λ k d within asks. asking k d within (omega (arith, within, long)) asks (is_watcher stream (get_or between k d)) refl;
        others = λ k d within none.
            let unwatched : is_watcher stream (get_or between k d) ≡ false =
            same_watcher k d within ∙ ap (λ b. b && reads stream (get_or olds k d).windows) none in
            subst (IsCalmed (get_or olds k d)) (sym (changed.elsewhere k d (omega (arith, within, long)) unwatched)) (calm k d within);
      }
        where
          asking : (k : ℕ) (d : LiveQuery A) → k < length olds → k < length between → asks_contents (get_or olds k d).policy ≡ true
              → (b : Bool) → is_watcher stream (get_or between k d) ≡ b → IsMoved stream time from (get_or olds k d) (get_or news k d)
          asking k d within inside asks true is =
              watcher_moved (get_or olds k d) (get_or between k d) (get_or news k d) (calm k d within) (changed.there k d inside is)
          asking k d within inside asks false is =
              let unread : reads stream (get_or olds k d).windows ≡ false =
              sym (ap (λ b. b && reads stream (get_or olds k d).windows) asks) ∙ (sym (same_watcher k d within) ∙ is) in
              subst (IsMoved stream time from (get_or olds k d)) (sym (changed.elsewhere k d inside is))
              (other_moved (get_or olds k d) (get_or between k d) (calm k d within) (watching k d within) (sought k d within) unread)

      -- no others have fresh windows
      pub all_still : All (IsStill (Some stream)) news
      all_still k d within none =
          let inside : k < length between = omega (arith, within, changed.long) in
          let before : k < length olds = omega (arith, inside, long) in
          by k d inside before (is_watcher stream (get_or between k d)) refl none
        where
          by : (k : ℕ) (d : LiveQuery A) → k < length between → k < length olds → (b : Bool) → is_watcher stream (get_or between k d) ≡ b
              → is_watcher stream (get_or news k d) ≡ false → IsCalm (get_or news k d).watched.items
          by k d inside before true is none =
              let same : is_watcher stream (get_or news k d) ≡ is_watcher stream (get_or between k d) =
              ap (λ (p : Parts A). is_watching stream p.query) (changed.there k d inside is).parts in
              absurd (true≢false (sym is ∙ (sym same ∙ none)))
          by k d inside before false is none =
              subst (λ (live : LiveQuery A). IsCalm live.watched.items) (sym (changed.elsewhere k d inside is))
              (subst IsCalm (sym (calm k d before).watched) (all_calm (get_or olds k d).watched.items))

-- what was taken back from those that watch a stream is taken back from all
pub calm_all : {A : Type 0} (stream : List ℕ) (olds news : List (LiveQuery A)) → All (IsStill (Some stream)) olds
    → AreChanged (is_watcher stream) IsCalmed olds news → (k : ℕ) (d : LiveQuery A) → k < length olds → IsCalmed (get_or olds k d) (get_or news k d)
calm_all {A} stream olds news still changed k d within = by (is_watcher stream (get_or olds k d)) refl
  where
    by : (b : Bool) → is_watcher stream (get_or olds k d) ≡ b → IsCalmed (get_or olds k d) (get_or news k d)
    by true is = changed.there k d within is
    by false is =
        subst (IsCalmed (get_or olds k d)) (sym (changed.elsewhere k d within is)) (calm_is (get_or olds k d) (still k d within is))

-- they watch as before
pub all_watching : {A : Type 0} (olds news : List (LiveQuery A)) → length news ≡ length olds
    → ((k : ℕ) (d : LiveQuery A) → k < length olds → IsCalmed (get_or olds k d) (get_or news k d))
    → All (λ live. IsWatching (asked live)) olds → All (λ live. IsWatching (asked live)) news
all_watching {A} olds news long calm watching k d within =
    let inside : k < length olds = omega (arith, within, long) in
    calmed_watching (get_or olds k d) (get_or news k d) (calm k d inside) (watching k d inside)
