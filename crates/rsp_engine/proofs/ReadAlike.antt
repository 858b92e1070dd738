-- What is read of each stream by queries of which registration fixed the same.
use Rattle.std.proofs.Common.{◌≡◌, ℕ, ◌&&◌, Bool, List, map, refl, sym, ap, ◌∙◌}
use Rattle.std.proofs.lemmas.Simd.{map-map}
use Rattle.rsp_engine.specs.World.{Registration}
use Rattle.rsp_engine.specs.declared.live_query.LiveQuery.{LiveQuery}
use Rattle.rsp_engine.specs.declared.readers.Readers.{Readers}
use Rattle.rsp_engine.specs.Inside.{Parts, fixed, parts_of}
use Rattle.rsp_engine.specs.Readers.{AreRead, is_watcher, placed_from, places_from, reads, watchers_of, windows_of}
use Rattle.rsp_engine.specs.Watching.{asks_contents}
use Rattle.rsp_engine.proofs.PlacedWindows.{placed_alike}
use Rattle.rsp_engine.proofs.PlacesRead.{places_map}

-- whether a query watches the stream, by what registration fixed
abbrev pub is_watching : List ℕ → Registration → Bool
is_watching stream query = asks_contents query.reading.policy && reads stream query.reading.windows

pub fixed_parts : {A : Type 0} (olds news : List (LiveQuery A)) → map parts_of news ≡ map parts_of olds → map fixed news ≡ map fixed olds
fixed_parts {A} olds news same =
    sym (map-map (λ (p : Parts A). p.query) parts_of news) ∙ (ap (map (λ (p : Parts A). p.query)) same ∙ map-map (λ (p : Parts A). p.query) parts_of olds)

module _ {A : Type 0} (readers now : Readers) (olds news : List (LiveQuery A)) (are : AreRead readers olds) (same : map fixed news ≡ map fixed olds) where
  pub watchers_alike : ((s : List ℕ) → watchers_of now s ≡ watchers_of readers s)
      → (s : List ℕ) → watchers_of now s ≡ places_from (is_watcher s) 0 news
  watchers_alike kept s =
      kept s
      ∙ (are.watchers s
      ∙ (sym (places_map (is_watching s) fixed 0 olds)
      ∙ (ap (places_from (is_watching s) 0) (sym same)
      ∙ places_map (is_watching s) fixed 0 news)))

  pub windows_alike : ((s : List ℕ) → windows_of now s ≡ windows_of readers s)
      → (s : List ℕ) → windows_of now s ≡ placed_from s 0 news
  windows_alike kept s = kept s ∙ (are.windows s ∙ placed_alike s 0 olds news same)
