-- How a live query comes to stand for the facts of an instant: what it sees is a set.
use Rattle.std.proofs.Common.{◌≡◌, ◌⊎◌, inl, inr, ℕ, ◌≤◌, Bool, true, false, true≢false, not, ◌&&◌, ◌||◌, if◌then◌else◌, Option, None, Some, List, [], ◌∷◌, ◌++◌, ℤ, pos, negsuc, ◌+ℤ◌, ◌+◌, filter, refl, sym, ap, subst, ◌∙◌, arith}
use Rattle.std.specs.List.{AllByRecursion, IsDistinct, flat_map, list_any}
use Rattle.std.specs.Prelude.{nat_eq}
use Rattle.std.proofs.lemmas.Bool.{ne_eqb}
use Rattle.std.proofs.lemmas.Int.{ints}
use Rattle.rsp_multiset.specs.Weights.{IsChanged, IsSameMultiset, only, sum_z, times, weight}
use Rattle.rsp_multiset.proofs.Linear.{turned}
use Rattle.rsp_multiset.proofs.SameLists.{once-times}
use Rattle.rsp_multiset.proofs.Sums.{sum_z-map}
use Rattle.rsp_terms.specs.declared.statement.Fact.{Fact}
use Rattle.rsp_terms.specs.declared.statement.Triple.{Triple}
use Rattle.rsp_terms.specs.declared.statement.Quad.{Quad}
use Rattle.rsp_terms.specs.declared.statement.Spot.{Spot}
use Rattle.rsp_terms.specs.declared.statement.Spot.TheVariants as spot
use Rattle.rsp_terms.specs.declared.term.Term.{Term}
use Rattle.rsp_terms.specs.Same.{fact_eq, fact_same, spot_eq, spot_same, triple_eq, triple_same}
use Rattle.rsp_multiset.proofs.Changing.{times-append}
use Rattle.rsp_scope.specs.Contents.{Accepted, Numbered, content_at, fact_in, facts_in, graph_of, numbered, window_facts}
use Rattle.rsp_scope.specs.Quads.{fact_of, names, spot_of, stored_with, stored_without}
use Rattle.rsp_scope.specs.Quads.{store as put}
use Rattle.rsp_scope.proofs.Takings.{times-filter}
use Rattle.rsp_algebra.specs.Changing.{IsSet, MayChange}
use Rattle.rsp_algebra.proofs.Sets.{times-set}
use Rattle.rsp_engine.specs.declared.live_query.StreamWindow.{StreamWindow}
use Rattle.rsp_engine.specs.Contents.{facts_over, watches_from}
use Rattle.rsp_engine.specs.Seeing.{facts_seen}
use Rattle.rsp_engine.specs.Stands.{IsStore}

-- once or not at all
abbrev pub IsOnce : ℤ → Type 0
IsOnce n = (n ≡ pos 0) ⊎ (n ≡ pos 1)

once_of : (b : Bool) (n : ℤ) → n ≡ only b (pos 1) → IsOnce n
once_of true n is = inr is
once_of false n is = inl is

-- each fact of a set stands once or not at all
pub set_once : (facts : List Fact) → IsSet facts → (q : Fact) → IsOnce (times fact_eq facts q)
set_once facts set q = once_of (list_any (fact_eq q) facts) (times fact_eq facts q) (times-set fact_same facts set q)

-- ---- the graph of a window

-- a fact is one of a window as often as its triple is one of the graph
times_in : (k : ℕ) (triples : List Triple) (q : Fact) → times fact_eq (facts_in k triples) q ≡ only (spot_eq q.spot (spot.Window k)) (times triple_eq triples q.triple)
times_in k triples q = sum_z-map (λ f. only (fact_eq q f) (pos 1)) (fact_in k) triples ∙ by (spot_eq q.spot (spot.Window k)) triples
  where
    by : (b : Bool) (ts : List Triple) → sum_z (λ t. only (b && triple_eq q.triple t) (pos 1)) ts ≡ only b (times triple_eq ts q.triple)
    by true ts = refl
    by false [] = refl
    by false (t ∷ ts) = let h = by false ts in omega (arith, ints, h)

both_only : (a b : Bool) → only a (only b (pos 1)) ≡ only (a && b) (pos 1)
both_only true b = refl
both_only false b = refl

graph_once : (k : ℕ) (entries : List Numbered) (q : Fact) → IsOnce (times fact_eq (facts_in k (graph_of entries)) q)
graph_once k entries q =
    let triples = flat_map (λ (entry : Numbered). entry.item.graph) entries in
    once_of (spot_eq q.spot (spot.Window k) && list_any (triple_eq q.triple) triples) (times fact_eq (facts_in k (graph_of entries)) q)
    (times_in k (graph_of entries) q
    ∙ (ap (λ n. only (spot_eq q.spot (spot.Window k)) n) (once-times triple_same triples q.triple)
    ∙ both_only (spot_eq q.spot (spot.Window k)) (list_any (triple_eq q.triple) triples)))

none_in : (k : ℕ) (triples : List Triple) (q : Fact) → spot_eq q.spot (spot.Window k) ≡ false → times fact_eq (facts_in k triples) q ≡ pos 0
none_in k triples q apart = times_in k triples q ∙ ap (λ b. only b (times triple_eq triples q.triple)) apart

-- ---- windows of different numbers have no fact in common

module _ (items : List Accepted) (first t : ℕ) (q : Fact) where
  abbrev here : StreamWindow → ℕ → List Fact
  here w k = window_facts (record { shape = w.shape; spot = k; stream = w.stream; first = first }) (Some t) items

  abbrev others : List StreamWindow → ℕ → List Fact
  others ws k = facts_seen items (watches_from first k ws) t

  -- a fact that is none of any window from number k on stands in none
  none_from : (ws : List StreamWindow) (k : ℕ) → ((m : ℕ) → k ≤ m → spot_eq q.spot (spot.Window m) ≡ false) → times fact_eq (others ws k) q ≡ pos 0
  none_from [] k apart = refl
  none_from (w ∷ ws) k apart =
      let one = none_in k (graph_of (content_at (record { shape = w.shape; spot = k; stream = w.stream; first = first }) (Some t) (numbered 0 items))) q (apart k (omega arith)) in
      let rest = none_from ws (k + 1) (λ m up. apart m (omega arith)) in
      let both = times-append fact_eq (here w k) (others ws (k + 1)) q in
      omega (arith, ints, one, rest, both)

  -- by the window, if any, of which it is one
  seen_once : (ws : List StreamWindow) (k : ℕ) → IsOnce (times fact_eq (others ws k) q)
  seen_once [] k = inl refl
  seen_once (w ∷ ws) k = by (spot_eq q.spot (spot.Window k)) refl (seen_once ws (k + 1))
    where
      both : times fact_eq (here w k ++ others ws (k + 1)) q ≡ times fact_eq (here w k) q +ℤ times fact_eq (others ws (k + 1)) q
      both = times-append fact_eq (here w k) (others ws (k + 1)) q

      graph : List Numbered
      graph = content_at (record { shape = w.shape; spot = k; stream = w.stream; first = first }) (Some t) (numbered 0 items)

      later : spot_eq q.spot (spot.Window k) ≡ true → (m : ℕ) → k + 1 ≤ m → spot_eq q.spot (spot.Window m) ≡ false
      later is m up =
          let own = (spot_same q.spot (spot.Window k)).0 is in
          let apart : nat_eq k m ≡ false = ne_eqb k m (omega arith) in
          ap (λ s. spot_eq s (spot.Window m)) own ∙ apart

      by : (b : Bool) → spot_eq q.spot (spot.Window k) ≡ b → IsOnce (times fact_eq (others ws (k + 1)) q) → IsOnce (times fact_eq (here w k ++ others ws (k + 1)) q)
      by true is rest =
          let none = none_from ws (k + 1) (later is) in
          subst IsOnce (let n : times fact_eq (here w k) q ≡ times fact_eq (here w k ++ others ws (k + 1)) q = omega (arith, ints, both, none) in n) (graph_once k graph q)
      by false is rest =
          let none : times fact_eq (here w k) q ≡ pos 0 = none_in k (graph_of graph) q is in
          subst IsOnce (let n : times fact_eq (others ws (k + 1)) q ≡ times fact_eq (here w k ++ others ws (k + 1)) q = omega (arith, ints, both, none) in n) rest

-- ---- what a query sees: the stored quads, and the graphs of its windows

module _ (stored : List Fact) (store : IsStore stored) (items : List Accepted) (first : ℕ) (windows : List StreamWindow) (t : ℕ) where
  once_in : (s : Spot) (y : Triple) → IsOnce (times fact_eq stored (record { spot = s; triple = y }) +ℤ times fact_eq (facts_over items first windows t) (record { spot = s; triple = y }))
  once_in (spot.Window k) y =
      let none = store.graphs k y in
      subst IsOnce (let n : times fact_eq (facts_over items first windows t) (record { spot = spot.Window k; triple = y }) ≡ times fact_eq stored (record { spot = spot.Window k; triple = y }) +ℤ times fact_eq (facts_over items first windows t) (record { spot = spot.Window k; triple = y }) = omega (arith, ints, none) in n)
      (seen_once items first t (record { spot = spot.Window k; triple = y }) windows 0)
  once_in spot.Default y =
      let none = none_from items first t (record { spot = spot.Default; triple = y }) windows 0 (λ m up. refl) in
      subst IsOnce (let n : times fact_eq stored (record { spot = spot.Default; triple = y }) ≡ times fact_eq stored (record { spot = spot.Default; triple = y }) +ℤ times fact_eq (facts_over items first windows t) (record { spot = spot.Default; triple = y }) = omega (arith, ints, none) in n)
      (set_once stored store.once (record { spot = spot.Default; triple = y }))
  once_in (spot.Named name) y =
      let none = none_from items first t (record { spot = spot.Named name; triple = y }) windows 0 (λ m up. refl) in
      subst IsOnce (let n : times fact_eq stored (record { spot = spot.Named name; triple = y }) ≡ times fact_eq stored (record { spot = spot.Named name; triple = y }) +ℤ times fact_eq (facts_over items first windows t) (record { spot = spot.Named name; triple = y }) = omega (arith, ints, none) in n)
      (set_once stored store.once (record { spot = spot.Named name; triple = y }))

  -- each fact that it sees stands once
  pub seen_facts_once : (q : Fact) → IsOnce (times fact_eq (stored ++ facts_over items first windows t) q)
  seen_facts_once q = subst IsOnce (sym (times-append fact_eq stored (facts_over items first windows t) q)) (once_in q.spot q.triple)

-- and of these, each that passes a test
pub once_read : (test : Fact → Bool) (facts : List Fact) → ((q : Fact) → IsOnce (times fact_eq facts q)) → (q : Fact) → IsOnce (times fact_eq (filter test facts) q)
once_read test facts once q = subst IsOnce (sym (times-filter fact_same test facts q)) (by (test q))
  where
    by : (b : Bool) → IsOnce (only b (times fact_eq facts q))
    by true = once q
    by false = inl refl

-- ---- the change from the facts of one report to those of the next

turn : (held now weight : ℤ) → IsOnce held → IsOnce now → now ≡ held +ℤ weight
    → (weight ≡ pos 0) ⊎ (((weight ≡ pos 1) × (held ≡ pos 0)) ⊎ ((weight ≡ negsuc 0) × (held ≡ pos 1)))
turn held now weight (inl none) (inl still) change = inl (omega (arith, ints, none, still, change))
turn held now weight (inl none) (inr comes) change = inr (inl (omega (arith, ints, none, comes, change), none))
turn held now weight (inr there) (inl goes) change = inr (inr (omega (arith, ints, there, goes, change), there))
turn held now weight (inr there) (inr stays) change = inl (omega (arith, ints, there, stays, change))

-- from one set to another each fact comes or goes once at most
pub may_change : (held now : List Fact) (changes : List (Fact × ℤ)) → ((q : Fact) → IsOnce (times fact_eq held q)) → ((q : Fact) → IsOnce (times fact_eq now q))
    → IsChanged fact_eq held changes now → MayChange held changes
may_change held now changes once once_now changed q =
    turn (times fact_eq held q) (times fact_eq now q) (weight fact_eq changes q) (once q) (once_now q) (changed q)

-- ---- the stored quads

or_none : (a b : Bool) → (a || b) ≡ false → (a ≡ false) × (b ≡ false)
or_none true b h = absurd (true≢false h)
or_none false b h = (refl, h)

apart_more : (xs : List Fact) (t x : Fact) → AllByRecursion (λ y. fact_eq x y ≡ false) xs → fact_eq x t ≡ false → AllByRecursion (λ y. fact_eq x y ≡ false) (xs ++ (t ∷ []))
apart_more [] t x apart last = (last, tt)
apart_more (y ∷ ys) t x apart last = (apart.0, apart_more ys t x apart.1 last)

distinct_more : (xs : List Fact) (t : Fact) → IsDistinct fact_eq xs → list_any (fact_eq t) xs ≡ false → IsDistinct fact_eq (xs ++ (t ∷ []))
unfolding IsDistinct
distinct_more [] t distinct none = (tt, tt)
distinct_more (x ∷ xs) t distinct none =
    let parts = or_none (fact_eq t x) (list_any (fact_eq t) xs) none in (
      apart_more xs t x distinct.0 (turned fact_same x t ∙ parts.0),
      distinct_more xs t distinct.1 parts.1,
    )

no_window : (name : Option Term) (k : ℕ) (triple other : Triple) → fact_eq (record { spot = spot.Window k; triple = triple }) (record { spot = spot_of name; triple = other }) ≡ false
no_window None k triple other = refl
no_window (Some name) k triple other = refl

pub store_new : IsStore []
unfolding IsDistinct
store_new = record { once = tt; graphs = λ k triple. refl }

store_one : (stored : List Fact) (quad : Quad) → IsStore stored → IsStore (put stored quad)
store_one stored quad is = by (list_any (fact_eq (fact_of quad)) stored) refl
  where
    by : (b : Bool) → list_any (fact_eq (fact_of quad)) stored ≡ b → IsStore (if b then stored else stored ++ fact_of quad ∷ [])
    by true there = is
    by false none = record {
      once = distinct_more stored (fact_of quad) is.once none;
      graphs = λ k triple.
          let before = is.graphs k triple in
          let apart = no_window quad.graph k triple quad.triple in
          times-append fact_eq stored (fact_of quad ∷ []) (record { spot = spot.Window k; triple = triple }) ∙ rw (before, apart) refl;
    }

pub store_more : (stored : List Fact) (quads : List Quad) → IsStore stored → IsStore (stored_with stored quads)
store_more stored [] is = is
store_more stored (quad ∷ quads) is = store_more (put stored quad) quads (store_one stored quad is)

pub store_less : (stored new : List Fact) (quads : List Quad) → IsStore stored → IsSameMultiset fact_eq new (stored_without stored quads) → IsDistinct fact_eq new → IsStore new
store_less stored new quads is same once = record {
  once = once;
  graphs = λ k triple.
      let q : Fact = record { spot = spot.Window k; triple = triple } in
      same q ∙ (times-filter fact_same (λ fact. not (names quads fact)) stored q ∙ rw (is.graphs k triple) (nothing (not (names quads q))));
}
  where
    nothing : (b : Bool) → only b (pos 0) ≡ pos 0
    nothing true = refl
    nothing false = refl
