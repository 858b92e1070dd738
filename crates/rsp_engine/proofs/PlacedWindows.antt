-- The windows over a stream with their places, as a query is added, taken out or changed.
use Rattle.std.proofs.Common.{◌≡◌, ℕ, zero, suc, ◌+◌, ◌≤◌, Bool, true, false, cond, not, nat_eq, List, [], ◌∷◌, ◌++◌, length, map, filter, remove, refl, ap, ◌∙◌, sym, arith, bytes_eq, append-nil}
use Rattle.std.proofs.lemmas.List.{append_assoc, map-append}
use Rattle.std.proofs.lemmas.List.Elements.{filter-append}
use Rattle.rsp_engine.specs.World.{Registration}
use Rattle.rsp_engine.specs.declared.live_query.LiveQuery.{LiveQuery}
use Rattle.rsp_engine.specs.declared.live_query.StreamWindow.{StreamWindow}
use Rattle.rsp_engine.specs.declared.readers.PlacedWindow.{PlacedWindow}
use Rattle.rsp_engine.specs.Inside.{fixed}
use Rattle.rsp_engine.specs.Readers.{lowered, lowered_window, placed, placed_from, without_windows}
use Rattle.rsp_engine.proofs.PlacesRead.{differs, differs_back, lowered_above, lowered_below, same_nat}

-- ---- one query's

module _ (stream : List ℕ) (place n first : ℕ) where
  abbrev window_at : ℕ → StreamWindow → PlacedWindow
  window_at m w = record { place = m; first = first; shape = w.shape }

  -- those of the query that is taken out go
  placed_gone : nat_eq n place ≡ true → (windows : List StreamWindow) → without_windows place (placed stream n first windows) ≡ []
  placed_gone same [] = refl
  placed_gone same (w ∷ windows) = by (bytes_eq stream w.stream) (placed_gone same windows)
    where
      by : (b : Bool) → without_windows place (placed stream n first windows) ≡ []
          → without_windows place
          (map (window_at n) (cond b (w ∷ filter (λ (v : StreamWindow). bytes_eq stream v.stream) windows)
          (filter (λ (v : StreamWindow). bytes_eq stream v.stream) windows))) ≡ []
      by true rest =
          ap (λ t. map (lowered_window place)
          (cond (not t) (window_at n w ∷ filter (λ (v : PlacedWindow). not (nat_eq v.place place)) (placed stream n first windows))
          (filter (λ (v : PlacedWindow). not (nat_eq v.place place)) (placed stream n first windows)))) same
          ∙ rest
      by false rest = rest

  -- those of another stay, at its new place
  placed_kept : nat_eq n place ≡ false → (windows : List StreamWindow)
      → without_windows place (placed stream n first windows) ≡ placed stream (lowered place n) first windows
  placed_kept other [] = refl
  placed_kept other (w ∷ windows) = by (bytes_eq stream w.stream) (placed_kept other windows)
    where
      by : (b : Bool) → without_windows place (placed stream n first windows) ≡ placed stream (lowered place n) first windows
          → without_windows place
          (map (window_at n) (cond b (w ∷ filter (λ (v : StreamWindow). bytes_eq stream v.stream) windows)
          (filter (λ (v : StreamWindow). bytes_eq stream v.stream) windows)))
          ≡ map (window_at (lowered place n)) (cond b (w ∷ filter (λ (v : StreamWindow). bytes_eq stream v.stream) windows)
          (filter (λ (v : StreamWindow). bytes_eq stream v.stream) windows))
      by true rest =
          ap (λ t. map (lowered_window place)
          (cond (not t) (window_at n w ∷ filter (λ (v : PlacedWindow). not (nat_eq v.place place)) (placed stream n first windows))
          (filter (λ (v : PlacedWindow). not (nat_eq v.place place)) (placed stream n first windows)))) other
          ∙ ap (λ l. window_at (lowered place n) w ∷ l) rest
      by false rest = rest

without_joined : (place : ℕ) (one other : List PlacedWindow)
    → without_windows place (one ++ other) ≡ without_windows place one ++ without_windows place other
without_joined place one other =
    ap (map (lowered_window place)) (filter-append (λ (v : PlacedWindow). not (nat_eq v.place place)) one other)
    ∙ map-append (lowered_window place) (filter (λ (v : PlacedWindow). not (nat_eq v.place place)) one)
    (filter (λ (v : PlacedWindow). not (nat_eq v.place place)) other)

-- ---- those of all queries

module _ {A : Type 0} (stream : List ℕ) where
  pub placed_push : (n : ℕ) (queries : List (LiveQuery A)) (live : LiveQuery A) → placed_from stream n (queries ++ live ∷ [])
      ≡ placed_from stream n queries ++ placed stream (n + length queries) live.first live.windows
  placed_push n [] live =
      let here : n ≡ n + 0 = omega arith in
      append-nil (placed stream n live.first live.windows) ∙ ap (λ m. placed stream m live.first live.windows) here
  placed_push n (query ∷ queries) live =
      let more : suc n + length queries ≡ n + length (query ∷ queries) = omega arith in
      let own = placed stream n query.first query.windows in
      ap (λ l. own ++ l) (placed_push (suc n) queries live
      ∙ ap (λ m. placed_from stream (suc n) queries ++ placed stream m live.first live.windows) more)
      ∙ sym (append_assoc own (placed_from stream (suc n) queries) (placed stream (n + length (query ∷ queries)) live.first live.windows))

  all_lowered : (place n : ℕ) (queries : List (LiveQuery A)) → place ≤ n
      → without_windows place (placed_from stream (suc n) queries) ≡ placed_from stream n queries
  all_lowered place n [] less = refl
  all_lowered place n (query ∷ queries) less =
      let own : without_windows place (placed stream (suc n) query.first query.windows) ≡ placed stream n query.first query.windows =
      placed_kept stream place (suc n) query.first (differs_back (suc n) place (omega (arith, less))) query.windows
      ∙ ap (λ m. placed stream m query.first query.windows) (lowered_above place n less) in
      without_joined place (placed stream (suc n) query.first query.windows) (placed_from stream (suc (suc n)) queries)
      ∙ (λ k. own k ++ all_lowered place (suc n) queries (omega (arith, less)) k)

  placed_less : (n : ℕ) (queries : List (LiveQuery A)) (k : ℕ)
      → without_windows (n + k) (placed_from stream n queries) ≡ placed_from stream n (remove queries k)
  placed_less n [] zero = refl
  placed_less n [] (suc k) = refl
  placed_less n (query ∷ queries) zero =
      let same : n + 0 ≡ n = omega arith in
      let own = placed_gone stream n n query.first (same_nat n n refl) query.windows in
      ap (λ m. without_windows m (placed_from stream n (query ∷ queries))) same
      ∙ (without_joined n (placed stream n query.first query.windows) (placed_from stream (suc n) queries)
      ∙ (λ i. own i ++ all_lowered n n queries (omega arith) i))
  placed_less n (query ∷ queries) (suc k) =
      let more : n + suc k ≡ suc n + k = omega arith in
      let own : without_windows (n + suc k) (placed stream n query.first query.windows) ≡ placed stream n query.first query.windows =
      placed_kept stream (n + suc k) n query.first (differs n (n + suc k) (omega arith)) query.windows
      ∙ ap (λ m. placed stream m query.first query.windows) (lowered_below (n + suc k) n (omega arith)) in
      let rest : without_windows (n + suc k) (placed_from stream (suc n) queries) ≡ placed_from stream (suc n) (remove queries k) =
      ap (λ m. without_windows m (placed_from stream (suc n) queries)) more ∙ placed_less (suc n) queries k in
      without_joined (n + suc k) (placed stream n query.first query.windows) (placed_from stream (suc n) queries)
      ∙ (λ i. own i ++ rest i)

  pub placed_removed : (queries : List (LiveQuery A)) (k : ℕ)
      → without_windows k (placed_from stream 0 queries) ≡ placed_from stream 0 (remove queries k)
  placed_removed queries k =
      let same : k ≡ 0 + k = omega arith in
      ap (λ m. without_windows m (placed_from stream 0 queries)) same ∙ placed_less 0 queries k

  -- they depend on what registration fixed
  pub placed_alike : (n : ℕ) (olds news : List (LiveQuery A)) → map fixed news ≡ map fixed olds
      → placed_from stream n olds ≡ placed_from stream n news
  placed_alike n [] [] same = refl
  placed_alike n (old ∷ olds) (new ∷ news) same =
      let first : fixed old ≡ fixed new = cc in
      let rest : map fixed news ≡ map fixed olds = cc in
      (λ i. placed stream n (first i).first (first i).reading.windows ++ placed_alike (suc n) olds news rest i)
  placed_alike n [] (new ∷ news) same = absurd (cc)
  placed_alike n (old ∷ olds) [] same = absurd (cc)
