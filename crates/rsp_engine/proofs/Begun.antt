-- A live query that has seen no item, and hasn't reported.
use Rattle.std.proofs.Common.{◌≡◌, ℕ, ◌+◌, ◌<◌, ◌≤◌, ◌^◌, false, List, Option, [], ◌∷◌, ◌++◌, map, drop, length, get_or, refl, sym, ap, subst, ◌∙◌, arith}
use Rattle.std.specs.List.{All, IsDistinct}
use Rattle.std.proofs.lemmas.List.{append_assoc, drop_all, drop_more, map-append}
use Rattle.std.proofs.lemmas.List.Elements.{All-cons, All-nil}
use Rattle.rsp_report.specs.declared.contents.Watched.{Watched}
use Rattle.rsp_report.specs.Due.{IsFreshAt, IsWatched}
use Rattle.rsp_terms.specs.declared.statement.Fact.{Fact}
use Rattle.rsp_algebra.specs.Changing.{IsSet}
use Rattle.rsp_scope.specs.Contents.{Accepted, Watch}
use Rattle.rsp_scope.specs.Moves.{Followed}
use Rattle.rsp_engine.specs.declared.live_query.StreamWindow.{StreamWindow}
use Rattle.rsp_engine.specs.Contents.{watches_from}
use Rattle.rsp_engine.specs.Due.{watched_window}
use Rattle.rsp_engine.specs.Keeping.{watches_followed}
use Rattle.rsp_engine.specs.Readers.{IsCalm}
use Rattle.rsp_engine.specs.Watching.{Asked, IsPolicy, IsPrompt, IsUpTo, IsWatching, Tells, told_at}
use Rattle.rsp_engine.specs.World.{Registration}

unseen_watched : (w : StreamWindow) → IsWatched (watched_window [] w)
unseen_watched w = record { sorted = λ i j d low high. absurd (omega (arith, high)); high = All-nil (λ time. time ≤ 2 ^ 48) }

-- what holds of each window without a time
all_unseen : (P : Watched → Type 0) (windows : List StreamWindow) → ((w : StreamWindow) → P (watched_window [] w)) → All P (map (watched_window []) windows)
all_unseen P [] holds = All-nil P
all_unseen P (w ∷ ws) holds = All-cons P (watched_window [] w) (map (watched_window []) ws) (holds w) (all_unseen P ws holds)

unseen_shapes : (windows : List StreamWindow)
    → map (λ (watched : Watched). watched.window) (map (watched_window []) windows) ≡ map (λ (w : StreamWindow). w.shape) windows
unseen_shapes [] = refl
unseen_shapes (w ∷ ws) = ap (λ shapes. w.shape ∷ shapes) (unseen_shapes ws)

pub begun_watched : (watched : List Watched) (windows : List StreamWindow) → watched ≡ map (watched_window []) windows → All IsWatched watched
begun_watched watched windows is = subst (All IsWatched) (sym is) (all_unseen IsWatched windows unseen_watched)

-- it watches its windows
pub begun_watching : (ask : Asked) → IsPolicy ask.policy → ask.watched ≡ map (watched_window []) ask.windows → IsWatching ask
begun_watching ask policy watched = record {
  policy = policy;
  shapes = ap (map (λ (watched : Watched). watched.window)) watched ∙ unseen_shapes ask.windows;
  watched = begun_watched ask.watched ask.windows watched;
}

-- with no time that is later than any
pub begun_up_to : (latest : ℕ) (watched : List Watched) (windows : List StreamWindow) → watched ≡ map (watched_window []) windows
    → All (IsUpTo latest) watched
begun_up_to latest watched windows is =
    subst (All (IsUpTo latest)) (sym is) (all_unseen (IsUpTo latest) windows (λ w. All-nil (λ time. time ≤ latest)))

-- none of its windows is fresh
unseen_fresh : (t : ℕ) (windows : List StreamWindow) → All (IsFreshAt t) (map (watched_window []) windows)
unseen_fresh t windows = all_unseen (IsFreshAt t) windows (λ w fresh. cc)

pub begun_prompt : (next : ℕ) (arrived : Option (List ℕ)) (ask : Asked) → IsPolicy ask.policy → ask.watched ≡ map (watched_window []) ask.windows → IsPrompt next arrived ask
begun_prompt next arrived ask policy watched = record {
  watching = begun_watching ask policy watched;
  fresh = λ is. subst (All (IsFreshAt next)) (sym watched) (unseen_fresh next ask.windows);
}

pub begun_calm : (watched : List Watched) (windows : List StreamWindow) → watched ≡ map (watched_window []) windows → IsCalm watched
begun_calm watched windows is = subst IsCalm (sym is) (all_unseen (λ (w : Watched). w.fresh ≡ false) windows (λ w. refl))

-- and tells of the items, of which it may see none
pub begun_tells : (items : List Accepted) (from : ℕ) (query : Registration) (watched : List Watched) → length items ≡ query.first
    → watched ≡ map (watched_window []) query.reading.windows → Tells items from query watched
begun_tells items from query watched first is = record {
  windows = ap (map (λ (w : Watched). w.window)) is ∙ unseen_shapes query.reading.windows;
  told = λ asks t late.
      ap (map (told_at t)) is
      ∙ ap (λ seen. map (told_at t) (map (watched_window seen) query.reading.windows))
      (sym (drop_all query.first items (omega (arith, first))));
}

-- the facts of an answer over none are a set
pub none_set : (facts : List Fact) → facts ≡ [] → IsSet facts
unfolding IsDistinct
none_set facts is = subst IsSet (sym is) tt

-- ---- its windows, one after another

pub rest_at : {X Y : Type 0} (f : X → Y) (xs : List X) (i : ℕ) (x : X) → i < length xs → x ≡ get_or xs i x
    → map f (drop i xs) ≡ f x ∷ map f (drop (i + 1) xs)
rest_at f xs i x within at = ap (map f) (drop_more xs i x within ∙ ap (λ y. y ∷ drop (i + 1) xs) (sym at))

-- one more is followed
pub watches_more : (first spot next : ℕ) (contents new : List Followed) (one : Followed) (w : StreamWindow) (rest ws : List StreamWindow)
    (all : List Watch) → new ≡ contents ++ one ∷ [] → next ≡ spot + 1 → rest ≡ w ∷ ws
    → one.watch ≡ record { shape = w.shape; spot = spot; stream = w.stream; first = first }
    → watches_followed contents ++ watches_from first spot rest ≡ all
    → watches_followed new ++ watches_from first next ws ≡ all
watches_more first spot next contents new one w rest ws all pushed after at is before =
    (λ k. watches_followed (pushed k) ++ watches_from first (after k) ws)
    ∙ (ap (λ ms. ms ++ watches_from first (spot + 1) ws) (map-append (λ (seen : Followed). seen.watch) contents (one ∷ []))
    ∙ (append_assoc (watches_followed contents) (one.watch ∷ []) (watches_from first (spot + 1) ws)
    ∙ (ap (λ watch. watches_followed contents ++ watch ∷ watches_from first (spot + 1) ws) is
    ∙ (ap (λ windows. watches_followed contents ++ watches_from first spot windows) (sym at) ∙ before))))
