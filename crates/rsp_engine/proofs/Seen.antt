-- Query by query, what live queries saw and what the world's did.
use Rattle.std.proofs.Common.{◌≡◌, ℕ, zero, suc, List, [], ◌∷◌, ◌++◌, Some, map, remove, slice_get, slice_set, refl, sym, ap, ◌∙◌, subst, false}
use Rattle.std.specs.List.{IsDistinct}
use Rattle.std.specs.Prelude.{bytes_eq}
use Rattle.std.proofs.lemmas.Simd.{map-map}
use Rattle.rsp_terms.specs.Same.{fact_eq}
use Rattle.rsp_multiset.specs.Weights.{times}
use Rattle.rsp_engine.specs.World.{Query, Registration, World, registrations}
use Rattle.rsp_engine.specs.Stands.{HaveSeen, Live, Precede, Saw, State, registration_of, registrations_in}
use Rattle.rsp_engine.proofs.Named.{get_map}

-- one query more
pub seen_more : (lives : List Live) (queries : List Query) (live : Live) (query : Query) → HaveSeen lives queries
    → Saw live query → HaveSeen (lives ++ live ∷ []) (queries ++ query ∷ [])
seen_more [] [] live query have same = (same, tt)
seen_more [] (q ∷ queries) live query have same = absurd have
seen_more (l ∷ lives) [] live query have same = absurd have
seen_more (l ∷ lives) (q ∷ queries) live query have same = (have.0, seen_more lives queries live query have.1 same)

-- one fewer
pub seen_removed : (lives : List Live) (queries : List Query) (i : ℕ) → HaveSeen lives queries
    → HaveSeen (remove lives i) (remove queries i)
seen_removed [] [] zero have = tt
seen_removed [] [] (suc i) have = tt
seen_removed [] (q ∷ queries) i have = absurd have
seen_removed (l ∷ lives) [] i have = absurd have
seen_removed (l ∷ lives) (q ∷ queries) zero have = have.1
seen_removed (l ∷ lives) (q ∷ queries) (suc i) have = (have.0, seen_removed lives queries i have.1)

-- one that has reported
pub seen_set : (lives : List Live) (queries : List Query) (i : ℕ) (live : Live) (query : Query) → HaveSeen lives queries
    → Saw live query → HaveSeen (slice_set lives i live) (slice_set queries i query)
seen_set [] [] zero live query have same = tt
seen_set [] [] (suc i) live query have same = tt
seen_set [] (q ∷ queries) i live query have same = absurd have
seen_set (l ∷ lives) [] i live query have same = absurd have
seen_set (l ∷ lives) (q ∷ queries) zero live query have same = (same, have.1)
seen_set (l ∷ lives) (q ∷ queries) (suc i) live query have same = (have.0, seen_set lives queries i live query have.1 same)

-- the one at a place
pub seen_at : (lives : List Live) (queries : List Query) (i : ℕ) (live : Live) (query : Query) → HaveSeen lives queries
    → slice_get lives i ≡ Some live → slice_get queries i ≡ Some query → Saw live query
seen_at [] [] i live query have listed other = cc
seen_at [] (q ∷ queries) i live query have listed other = absurd have
seen_at (l ∷ lives) [] i live query have listed other = absurd have
seen_at (l ∷ lives) (q ∷ queries) zero live query have listed other =
    let one : l ≡ live = cc in
    let two : q ≡ query = cc in
    subst (λ x. Saw x query) one (subst (λ (y : Query). Saw l y) two have.0)
seen_at (l ∷ lives) (q ∷ queries) (suc i) live query have listed other = seen_at lives queries i live query have.1 listed other

-- before the first report there is nothing of either
precede_new : (live : Live) → live.reported ≡ false → Precede live []
precede_new live is = rw is refl

pub saw_new : (live : Live) (registration : Registration) → live.reported ≡ false → live.seen ≡ []
    → Saw live (record { registration = registration; seen = []; preceding = [] })
saw_new live registration is none = (precede_new live is, λ q. ap (λ facts. times fact_eq facts q) none)

-- ---- the world's queries by those of the engine

-- what a mapped list has at a place
pub mapped_at : {X Y : Type 0} (f : X → Y) (xs : List X) (i : ℕ) (y : Y) → slice_get (map f xs) i ≡ Some y
    → (x : X) × (slice_get xs i ≡ Some x) × (f x ≡ y)
mapped_at f [] i y listed = absurd (cc)
mapped_at f (x ∷ xs) zero y listed = (x, refl, cc)
mapped_at f (x ∷ xs) (suc i) y listed = mapped_at f xs i y listed

-- the name under which a query is looked up
abbrev pub name_of_query : Query → List ℕ
name_of_query query = query.registration.name

module _ (e : State) (world : World) (same : registrations_in e ≡ registrations world) where
  pub world_at : (place : ℕ) (live : Live) → slice_get e.queries place ≡ Some live
      → (query : Query) × (slice_get world.queries place ≡ Some query) × (query.registration ≡ registration_of live)
  world_at place live listed =
      mapped_at (λ (query : Query). query.registration) world.queries place (registration_of live)
      (ap (λ qs. slice_get qs place) (sym same) ∙ get_map registration_of e.queries place live listed)

  pub world_names : IsDistinct bytes_eq (map (λ (l : Live). l.name) e.queries) → IsDistinct bytes_eq (map name_of_query world.queries)
  world_names names =
      let is : map name_of_query world.queries ≡ map (λ (l : Live). l.name) e.queries =
      sym (map-map (λ (r : Registration). r.name) (λ (query : Query). query.registration) world.queries)
      ∙ (ap (map (λ (r : Registration). r.name)) (sym same) ∙ map-map (λ (r : Registration). r.name) registration_of e.queries) in
      rw is names
