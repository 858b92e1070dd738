-- The log of the stored quads, as the queries that have reported see it.
use Rattle.std.proofs.Common.{◌≡◌, ℕ, ◌+◌, ◌<◌, true, false, true≢false, List, [], ◌∷◌, ◌++◌, ℤ, ◌+ℤ◌, All, Contains, length, slice_index_or, take, sym, subst, ◌∙◌, arith}
use Rattle.std.proofs.lemmas.Int.{ints}
use Rattle.std.proofs.lemmas.List.Elements.{All-more, All-weaker, Contains-append_left, Contains-push}
use Rattle.rsp_engine.specs.declared.live_query.LiveQuery.{LiveQuery}

-- ---- the places of the queries that have reported

module _ {A : Type 0} where
  abbrev pub HasPlace : List ℕ → LiveQuery A → Type 0
  HasPlace places live = live.reported ≡ true → Contains places live.place

  pub with_place : (queries : List (LiveQuery A)) (i : ℕ) (live : LiveQuery A) (before after : List ℕ) → i < length queries
      → live ≡ slice_index_or queries i live → after ≡ before ++ live.place ∷ [] → All (HasPlace before) (take i queries)
      → All (HasPlace after) (take (i + 1) queries)
  with_place queries i live before after below at more h =
      subst (λ places. All (HasPlace places) (take (i + 1) queries)) (sym more)
      (All-more (HasPlace (before ++ live.place ∷ [])) queries i live below
      (All-weaker (HasPlace before) (HasPlace (before ++ live.place ∷ []))
      (λ other has told. Contains-append_left before (live.place ∷ []) other.place (has told)) (take i queries) h)
      (subst (HasPlace (before ++ live.place ∷ [])) at (λ _. Contains-push before live.place)))

  pub without_place : (queries : List (LiveQuery A)) (i : ℕ) (live : LiveQuery A) (before after : List ℕ) → i < length queries
      → live ≡ slice_index_or queries i live → live.reported ≡ false → after ≡ before → All (HasPlace before) (take i queries)
      → All (HasPlace after) (take (i + 1) queries)
  without_place queries i live before after below at untold same h =
      subst (λ places. All (HasPlace places) (take (i + 1) queries)) (sym same)
      (All-more (HasPlace before) queries i live below h
      (subst (HasPlace before) at (λ told. absurd (true≢false (sym told ∙ untold)))))

-- ---- a change of the stored quads

-- what the log gains is what the stored quads gain
pub logged_as : (since since_now stored stored_now change : ℤ) → since_now ≡ since +ℤ change → stored_now ≡ stored +ℤ change
    → since_now +ℤ stored ≡ since +ℤ stored_now
logged_as since since_now stored stored_now change logged changed = omega (arith, ints, logged, changed)
