-- What is read of each stream, as a live query is added, changed or taken out.
use Rattle.std.proofs.Common.{◌≡◌, ℕ, ◌+◌, Bool, true, false, cond, List, Option, Some, [], ◌∷◌, ◌++◌, length, map, remove, slice_get, slice_set, refl, sym, ap, subst, ◌∙◌, arith, append-nil}
use Rattle.std.specs.List.{All}
use Rattle.std.specs.Option.{option_map_or}
use Rattle.std.proofs.lemmas.List.Elements.{All-append, All-cons, All-nil, All-set}
use Rattle.rsp_engine.specs.World.{Registration}
use Rattle.rsp_engine.specs.declared.live_query.LiveQuery.{LiveQuery}
use Rattle.rsp_engine.specs.declared.readers.Readers.{Readers}
use Rattle.rsp_engine.specs.Inside.{fixed}
use Rattle.rsp_engine.specs.Readers.{AreRead, IsCalm, IsStill, is_watcher, placed, placed_from, places_from, watchers_of, windows_of, without, without_windows}
use Rattle.rsp_engine.proofs.BehindReport.{All-get}
use Rattle.rsp_engine.proofs.Named.{All-remove, get_map, set_map, set_same}
use Rattle.rsp_engine.proofs.PlacedWindows.{placed_push, placed_removed}
use Rattle.rsp_engine.proofs.PlacesRead.{places_push, places_removed}
use Rattle.rsp_engine.proofs.ReadAlike.{is_watching, watchers_alike, windows_alike}

module _ {A : Type 0} (readers new : Readers) (queries : List (LiveQuery A)) (are : AreRead readers queries) (newest : new.newest ≡ readers.newest) where
  -- one more, last
  pub read_more : (query : LiveQuery A) (place : ℕ) → place ≡ length queries → IsCalm query.watched.items
      → ((s : List ℕ) → watchers_of new s ≡ cond (is_watcher s query) (watchers_of readers s ++ place ∷ []) (watchers_of readers s))
      → ((s : List ℕ) → windows_of new s ≡ windows_of readers s ++ placed s place query.first query.windows)
      → AreRead new (queries ++ query ∷ [])
  read_more query place last calm watch put = record {
    watchers = λ s.
        watch s
        ∙ ((λ i. cond (is_watcher s query) (are.watchers s i ++ end i ∷ []) (are.watchers s i))
        ∙ (by (is_watcher s query) (places_from (is_watcher s) 0 queries) (0 + length queries)
        ∙ sym (places_push (is_watcher s) 0 queries query)));
    windows = λ s. put s ∙ ((λ i. are.windows s i ++ placed s (end i) query.first query.windows) ∙ sym (placed_push s 0 queries query));
    still = subst (λ o. All (IsStill o) (queries ++ query ∷ [])) (sym newest)
        (All-append (IsStill readers.newest) queries (query ∷ []) are.still
        (All-cons (IsStill readers.newest) query [] (λ none. calm) (All-nil (IsStill {A = A} readers.newest))));
  }
    where
      end : place ≡ 0 + length queries
      end = omega (arith, last)

      by : (b : Bool) (l : List ℕ) (n : ℕ) → cond b (l ++ n ∷ []) l ≡ l ++ cond b (n ∷ []) []
      by true l n = refl
      by false l n = sym (append-nil l)

  -- one fewer
  pub read_less : (place : ℕ) → ((s : List ℕ) → watchers_of new s ≡ without place (watchers_of readers s))
      → ((s : List ℕ) → windows_of new s ≡ without_windows place (windows_of readers s)) → AreRead new (remove queries place)
  read_less place out gone = record {
    watchers = λ s. out s ∙ (ap (without place) (are.watchers s) ∙ places_removed (is_watcher s) queries place);
    windows = λ s. gone s ∙ (ap (without_windows place) (are.windows s) ∙ placed_removed s queries place);
    still = subst (λ o. All (IsStill o) (remove queries place)) (sym newest) (All-remove (IsStill readers.newest) queries place are.still);
  }

-- one of which registration fixed the same, and that watches the same
pub read_set : {A : Type 0} (readers : Readers) (queries : List (LiveQuery A)) (place : ℕ) (live now : LiveQuery A) → AreRead readers queries
    → slice_get queries place ≡ Some live → fixed now ≡ fixed live → now.watched.items ≡ live.watched.items
    → AreRead readers (slice_set queries place now)
read_set {A} readers queries place live now are listed fixes watched =
    let same : map fixed (slice_set queries place now) ≡ map fixed queries =
    set_map fixed queries place now
    ∙ (ap (slice_set (map fixed queries) place) fixes
    ∙ set_same (map fixed queries) place (fixed live) (get_map fixed queries place live listed)) in
    record {
      watchers = watchers_alike readers readers queries (slice_set queries place now) are same (λ s. refl);
      windows = windows_alike readers readers queries (slice_set queries place now) are same (λ s. refl);
      still = All-set (IsStill readers.newest) queries place now
          (λ none. subst IsCalm (sym watched)
          (All-get (IsStill readers.newest) queries place live are.still listed
          (subst (λ (r : Registration). option_map_or (λ s. is_watching s r) readers.newest false ≡ false) fixes none)))
          are.still;
    }

-- of no queries there are none
pub read_none : {A : Type 0} (readers : Readers) (queries : List (LiveQuery A)) → queries ≡ [] → ((s : List ℕ) → watchers_of readers s ≡ [])
    → ((s : List ℕ) → windows_of readers s ≡ []) → AreRead readers queries
read_none {A} readers queries is none empty =
    subst (AreRead readers) (sym is) (record { watchers = none; windows = empty; still = All-nil (IsStill {A = A} readers.newest) })
