-- The content at an instant is what is left of the last move's, and what entered.
use Rattle.std.proofs.Common.{◌≡◌, ℕ, suc, ◌+◌, ◌<◌, ◌≤◌, Bool, true, false, true≢false, ◌&&◌, ◌||◌, nat_lt, nat_le, Option, None, Some, List, [], ◌∷◌, ◌++◌, ℤ, pos, ◌+ℤ◌, length, filter, map, refl, sym, ap, subst, ◌∙◌, bytes_eq, arith}
use Rattle.std.specs.List.{flat_map}
use Rattle.std.specs.Option.{option_map, option_map_or}
use Rattle.std.proofs.lemmas.Bool.Decides.{nat_tests}
use Rattle.std.proofs.lemmas.Int.{ints}
use Rattle.rsp_spec.specs.Windows.{Shape, active_window, in_content, opening}
use Rattle.rsp_spec.proofs.ContentLaws.{in_content_is}
use Rattle.rsp_multiset.specs.RowLists.{each_once}
use Rattle.rsp_multiset.specs.Weights.{sum_z, only, times, weight, IsChanged}
use Rattle.rsp_multiset.proofs.SameLists.{once-times}
use Rattle.rsp_multiset.proofs.Sums.{sum_z-alike, sum_z-append, sum_z-filter, sum_z-flat_map, sum_z-map, sum_z-plus}
use Rattle.rsp_terms.specs.declared.statement.Triple.{Triple}
use Rattle.rsp_terms.specs.declared.statement.Fact.{Fact}
use Rattle.rsp_terms.specs.declared.statement.Spot.TheVariants.{Window}
use Rattle.rsp_terms.specs.Same.{fact_eq, spot_eq, triple_eq, triple_same}
use Rattle.rsp_scope.proofs.Endings.{filter-twice}
use Rattle.rsp_scope.specs.Contents.{Accepted, Numbered, Watch, content, content_at, fact_in, facts_in, graph_of, numbered, sees, window_facts}
use Rattle.rsp_scope.specs.Ends.{HasContent, as_accepted}
use Rattle.rsp_scope.specs.Kept.{Kept}
use Rattle.rsp_scope.specs.Moves.{Followed, HasSeen, IsReached, Moves, Placed, TakesIn, enters, gate_of, is_after, is_fresh, listed, presence}
use Rattle.rsp_scope.specs.declared.item.Item.{Item}
use Rattle.rsp_scope.proofs.Tallies.{presence-times}

-- numbers of a list in two parts
pub numbered-append : (n : ℕ) (xs ys : List Accepted) → numbered n (xs ++ ys) ≡ numbered n xs ++ numbered (n + length xs) ys
numbered-append n [] ys = let same : n ≡ n + 0 = omega arith in ap (λ m. numbered m ys) same
numbered-append n (x ∷ xs) ys =
    let next : n + 1 + length xs ≡ n + suc (length xs) = omega arith in
    ap (λ l. record { number = n; item = x } ∷ l) (numbered-append (n + 1) xs ys ∙ ap (λ m. numbered (n + 1) xs ++ numbered m ys) next)

sum-below : (f g : Numbered → ℤ) (top n : ℕ) (xs : List Accepted) → n + length xs ≤ top → ((x : Numbered) → x.number < top → f x ≡ g x)
    → sum_z f (numbered n xs) ≡ sum_z g (numbered n xs)
sum-below f g top n [] h same = refl
sum-below f g top n (x ∷ xs) h same =
    (λ i. same (record { number = n; item = x }) (omega (arith, h)) i +ℤ sum-below f g top (n + 1) xs (omega (arith, h)) same i)

sum-from : (f g : Numbered → ℤ) (bottom n : ℕ) (xs : List Accepted) → bottom ≤ n → ((x : Numbered) → bottom ≤ x.number → f x ≡ g x)
    → sum_z f (numbered n xs) ≡ sum_z g (numbered n xs)
sum-from f g bottom n [] h same = refl
sum-from f g bottom n (x ∷ xs) h same =
    (λ i. same (record { number = n; item = x }) h i +ℤ sum-from f g bottom (n + 1) xs (omega (arith, h)) same i)

-- in the content at t, by the opening of the active window
by-opening : (w : Shape) (t time : ℕ) → in_content w t time ≡ (is_after (option_map (opening w) (active_window w t)) time && nat_le time t)
by-opening w t time = by (active_window w t)
  where
    by : (active : Option ℕ) → option_map_or (λ k. nat_lt (opening w k) time && nat_le time t) active false
        ≡ (is_after (option_map (opening w) active) time && nat_le time t)
    by None = refl
    by (Some k) = refl

and-left : (a b : Bool) → (a && b) ≡ true → a ≡ true
and-left true b h = refl
and-left false b h = absurd (true≢false (sym h))

-- the parts of one item: in by the last move and still in, or in and later than it
parts : (late i was a : Bool) → (late ≡ true → was ≡ false) → (late ≡ false → i ≡ true → (was ≡ true) × (a ≡ true))
    → (late ≡ false → was ≡ true → a ≡ true → i ≡ true)
    → (n : ℤ) → only i n ≡ only was (only a n) +ℤ only i (only late n)
parts true i true a h g k n = absurd (true≢false (h refl))
parts true true false a h g k n = omega (arith, ints)
parts true false false a h g k n = refl
parts false true true true h g k n = omega (arith, ints)
parts false true true false h g k n = absurd (true≢false (sym (g refl refl).1))
parts false true false a h g k n = absurd (true≢false (sym (g refl refl).0))
parts false false true true h g k n = absurd (true≢false (sym (k refl refl refl)))
parts false false true false h g k n = refl
parts false false false a h g k n = refl

parts-at : (w : Shape) (since t time : ℕ) → 1 ≤ w.slide → since ≤ t → (n : ℤ) → only (in_content w t time) n
    ≡ only (in_content w since time) (only (is_after (option_map (opening w) (active_window w t)) time) n) +ℤ only (in_content w t time) (only (nat_lt since time) n)
parts-at w since t time slide reached n =
    parts (nat_lt since time) (in_content w t time) (in_content w since time) after later still back n
  where
    after : Bool
    after = is_after (option_map (opening w) (active_window w t)) time

    not-yet : (b : Bool) → in_content w since time ≡ b → nat_lt since time ≡ true → b ≡ false
    not-yet true is late = absurd (let early = ((in_content_is w since time slide).0 is).0 in grind (arith, nat_tests, early, late))
    not-yet false is late = refl

    later : nat_lt since time ≡ true → in_content w since time ≡ false
    later late = not-yet (in_content w since time) refl late

    still : nat_lt since time ≡ false → in_content w t time ≡ true → (in_content w since time ≡ true) × (after ≡ true)
    still early is =
        let needed = ((in_content_is w t time slide).0 is).1 in
        let up : time ≤ since = grind (arith, nat_tests, early) in (
          (in_content_is w since time slide).1 (up, record { number = needed.number; inside = needed.inside; late = omega (arith, needed.late, reached) }),
          and-left after (nat_le time t) (sym (by-opening w t time) ∙ is),
        )

    back : nat_lt since time ≡ false → in_content w since time ≡ true → after ≡ true → in_content w t time ≡ true
    back early is open' =
        let up : time ≤ t = omega (arith, reached, ((in_content_is w since time slide).0 is).0) in
        by-opening w t time ∙ (λ i. open' i && (let test : nat_le time t ≡ true = grind (arith, nat_tests, up) in test) i)

-- and behind the tests of number and stream
gated-parts : (s b i was a fresh : Bool) → ((n : ℤ) → only i n ≡ only was (only a n) +ℤ only i (only fresh n))
    → (n : ℤ) → only (s && (b && i)) n ≡ only (s && (b && was)) (only a n) +ℤ only (s && (b && i)) (only fresh n)
gated-parts true true i was a fresh h n = h n
gated-parts true false i was a fresh h n = refl
gated-parts false b i was a fresh h n = refl

fresh-below : (seen number : ℕ) (late : Bool) → number < seen → (nat_le seen number || late) ≡ late
fresh-below seen number late h = let test : nat_le seen number ≡ false = grind (arith, nat_tests, h) in ap (λ b. b || late) test

fresh-from : (seen number : ℕ) (late : Bool) → seen ≤ number → (nat_le seen number || late) ≡ true
fresh-from seen number late h = let test : nat_le seen number ≡ true = grind (arith, nat_tests, h) in ap (λ b. b || late) test

or-true : (b : Bool) → (b || true) ≡ true
or-true true = refl
or-true false = refl

-- the gate lets through what the window sees and didn't have
gate-one : (x y a l f i : Bool) → i ≡ (a && l) → (n : ℤ) → only (x && (y && (a && (l && f)))) n ≡ only (x && (y && i)) (only f n)
gate-one x y a l f i is n = by x y a l ∙ ap (λ b. only (x && (y && b)) (only f n)) (sym is)
  where
    by : (x y a l : Bool) → only (x && (y && (a && (l && f)))) n ≡ only (x && (y && (a && l))) (only f n)
    by true true true true = refl
    by true true true false = refl
    by true true false l = refl
    by true false a l = refl
    by false y a l = refl

module _ (watch : Watch) (since : Option ℕ) (t : ℕ) (slide : 1 ≤ watch.shape.slide) (reached : IsReached since t) (items : List Accepted) (g : ℕ → ℕ → List Triple → ℤ) where
  abbrev value : Numbered → ℤ
  value n = g n.item.time n.number n.item.graph

  abbrev fresh : Numbered → Bool
  fresh n = is_fresh (length items) since n.number n.item.time

  abbrev after : Numbered → Bool
  after n = is_after (option_map (opening watch.shape) (active_window watch.shape t)) n.item.time

  -- what the window sees of the earlier items: what is left, and those that were to come
  earlier : sum_z (λ n. only (sees watch t n) (value n)) (numbered 0 items)
      ≡ sum_z (λ n. only (after n) (value n)) (content_at watch since (numbered 0 items)) +ℤ sum_z (λ n. only (sees watch t n) (only (fresh n) (value n))) (numbered 0 items)
  earlier = by since reached
    where
      all : (number : ℕ) (b : Bool) (v : ℤ) → only b v ≡ only b (only (nat_le (length items) number || true) v)
      all number b v = ap (λ c. only b (only c v)) (sym (or-true (nat_le (length items) number)))

      one : (from : ℕ) → from ≤ t → (n : Numbered) → n.number < length items → only (sees watch t n) (value n)
          ≡ only (sees watch from n) (only (after n) (value n)) +ℤ only (sees watch t n) (only (is_fresh (length items) (Some from) n.number n.item.time) (value n))
      one from h n below =
          gated-parts (nat_le watch.first n.number) (bytes_eq n.item.stream watch.stream) (in_content watch.shape t n.item.time) (in_content watch.shape from n.item.time) (after n) (nat_lt from n.item.time)
          (parts-at watch.shape from t n.item.time slide h)
          (value n)
          ∙ ap (λ b. only (sees watch from n) (only (after n) (value n)) +ℤ only (sees watch t n) (only b (value n))) (sym (fresh-below (length items) n.number (nat_lt from n.item.time) below))

      by : (from : Option ℕ) → IsReached from t → sum_z (λ n. only (sees watch t n) (value n)) (numbered 0 items)
          ≡ sum_z (λ n. only (after n) (value n)) (content_at watch from (numbered 0 items)) +ℤ sum_z (λ n. only (sees watch t n) (only (is_fresh (length items) from n.number n.item.time) (value n))) (numbered 0 items)
      by None h =
          let same = sum_z-alike (λ n. only (sees watch t n) (value n)) (λ n. only (sees watch t n) (only (nat_le (length items) n.number || true) (value n))) (λ n. all n.number (sees watch t n) (value n)) (numbered 0 items) in
          omega (arith, ints, same)
      by (Some from) h =
          sum-below (λ n. only (sees watch t n) (value n)) (λ n. only (sees watch from n) (only (after n) (value n)) +ℤ only (sees watch t n) (only (is_fresh (length items) (Some from) n.number n.item.time) (value n))) (length items) 0 items (omega arith) (one from h)
          ∙ (sum_z-plus (λ n. only (sees watch from n) (only (after n) (value n))) (λ n. only (sees watch t n) (only (is_fresh (length items) (Some from) n.number n.item.time) (value n))) (numbered 0 items)
          ∙ ap (λ s. s +ℤ sum_z (λ n. only (sees watch t n) (only (is_fresh (length items) (Some from) n.number n.item.time) (value n))) (numbered 0 items)) (sym (sum_z-filter (λ n. only (after n) (value n)) (sees watch from) (numbered 0 items))))

  -- all that it sees of the others enters
  later : (more : List Accepted) → sum_z (λ n. only (sees watch t n) (value n)) (numbered (length items) more) ≡ sum_z (λ n. only (sees watch t n) (only (fresh n) (value n))) (numbered (length items) more)
  later more =
      sum-from (λ n. only (sees watch t n) (value n)) (λ n. only (sees watch t n) (only (fresh n) (value n))) (length items) (length items) more (omega arith)
      (λ n from. ap (λ b. only (sees watch t n) (only b (value n))) (sym (fresh-from (length items) n.number (option_map_or (λ s. nat_lt s n.item.time) since true) from)))

  entering : (item : Item) → only (enters (gate_of watch since (length items) t) item) (value (as_accepted item)) ≡ only (sees watch t (as_accepted item)) (only (fresh (as_accepted item)) (value (as_accepted item)))
  entering item =
      gate-one (nat_le watch.first item.number) (bytes_eq item.stream watch.stream) (after (as_accepted item)) (nat_le item.time t) (fresh (as_accepted item)) (in_content watch.shape t item.time)
      (by-opening watch.shape t item.time)
      (value (as_accepted item))

  -- what enters, by all accepted items
  entered : (more : List Accepted) (kept : List Item) → content watch t (map as_accepted kept) ≡ content watch t (numbered 0 (items ++ more))
      → sum_z (λ (item : Item). only (enters (gate_of watch since (length items) t) item) (value (as_accepted item))) kept
      ≡ sum_z (λ n. only (sees watch t n) (only (fresh n) (value n))) (numbered 0 (items ++ more))
  entered more kept same =
      sum_z-alike _ _ entering kept
      ∙ (sym (sum_z-map (λ n. only (sees watch t n) (only (fresh n) (value n))) as_accepted kept)
      ∙ (sym (sum_z-filter (λ n. only (fresh n) (value n)) (sees watch t) (map as_accepted kept))
      ∙ (ap (λ l. sum_z (λ n. only (fresh n) (value n)) l) same ∙ sum_z-filter (λ n. only (fresh n) (value n)) (sees watch t) (numbered 0 (items ++ more)))))

  halves : (f : Numbered → ℤ) (more : List Accepted) → sum_z f (numbered 0 (items ++ more)) ≡ sum_z f (numbered 0 items) +ℤ sum_z f (numbered (length items) more)
  halves f more =
      let none : 0 + length items ≡ length items = omega arith in
      ap (λ l. sum_z f l) (numbered-append 0 items more ∙ ap (λ m. numbered 0 items ++ numbered m more) none) ∙ sum_z-append f (numbered 0 items) (numbered (length items) more)

  placed-law : (more : List Accepted) (kept : List Item) (placed placed' : List Placed)
      → content watch t (map as_accepted kept) ≡ content watch t (numbered 0 (items ++ more))
      → ((f : ℕ → ℕ → List Triple → ℤ) → sum_z (λ (e : Placed). f e.0.0 e.0.1 e.1) placed ≡ sum_z (λ (n : Numbered). f n.item.time n.number n.item.graph) (content_at watch since (numbered 0 items)))
      → TakesIn (gate_of watch since (length items) t) kept (filter (λ (e : Placed). is_after (option_map (opening watch.shape) (active_window watch.shape t)) e.0.0) placed) placed'
      → sum_z (λ (e : Placed). g e.0.0 e.0.1 e.1) placed' ≡ sum_z value (content watch t (numbered 0 (items ++ more)))
  placed-law more kept placed placed' same before took =
      let a = took (λ (e : Placed). g e.0.0 e.0.1 e.1) in
      let b = sum_z-filter (λ (e : Placed). g e.0.0 e.0.1 e.1) (λ (e : Placed). is_after (option_map (opening watch.shape) (active_window watch.shape t)) e.0.0) placed
      ∙ before (λ time number graph. only (is_after (option_map (opening watch.shape) (active_window watch.shape t)) time) (g time number graph))
      in
      let c = entered more kept same ∙ halves (λ n. only (sees watch t n) (only (fresh n) (value n))) more in
      let d = sum_z-filter value (sees watch t) (numbered 0 (items ++ more)) ∙ halves (λ n. only (sees watch t n) (value n)) more in
      let e = earlier in
      let l = later more in
      omega (arith, ints, a, b, c, d, e, l)

-- a fact of the window's graph is in it as often as its triple is
times-in : (k : ℕ) (triples : List Triple) (q : Fact) → times fact_eq (facts_in k triples) q ≡ only (spot_eq q.spot (Window k)) (times triple_eq triples q.triple)
times-in k triples q = sum_z-map (λ f. only (fact_eq q f) (pos 1)) (fact_in k) triples ∙ by (spot_eq q.spot (Window k)) triples
  where
    by : (b : Bool) (ts : List Triple) → sum_z (λ t. only (b && triple_eq q.triple t) (pos 1)) ts ≡ only b (times triple_eq ts q.triple)
    by true ts = refl
    by false [] = refl
    by false (t ∷ ts) = let h = by false ts in omega (arith, ints, h)

presence-only : (b : Bool) (n : ℤ) → presence (only b n) ≡ only b (presence n)
presence-only true n = refl
presence-only false n = refl

-- the graph's facts are those that the content lists, each once
facts-once : (k : ℕ) (entries : List Numbered) (q : Fact)
    → times fact_eq (facts_in k (graph_of entries)) q ≡ presence (sum_z (λ (n : Numbered). times fact_eq (facts_in k n.item.graph) q) entries)
facts-once k entries q =
    let triples = flat_map (λ (n : Numbered). n.item.graph) entries in
    let spot = spot_eq q.spot (Window k) in
    let once = times-in k (each_once triple_eq triples) q ∙ ap (λ n. only spot n) (once-times triple_same triples q.triple ∙ sym (presence-times triple_eq triples q.triple)) in
    let all = sum_z-alike (λ (n : Numbered). times fact_eq (facts_in k n.item.graph) q) (λ (n : Numbered). only spot (times triple_eq n.item.graph q.triple)) (λ n. times-in k n.item.graph q) entries ∙ gated spot entries in
    once ∙ (sym (presence-only spot (times triple_eq triples q.triple)) ∙ ap presence (sym all))
  where
    gated : (b : Bool) (ns : List Numbered) → sum_z (λ (n : Numbered). only b (times triple_eq n.item.graph q.triple)) ns
        ≡ only b (times triple_eq (flat_map (λ (n : Numbered). n.item.graph) ns) q.triple)
    gated true ns = sym (sum_z-flat_map (λ t. only (triple_eq q.triple t) (pos 1)) (λ (n : Numbered). n.item.graph) ns)
    gated false [] = refl
    gated false (n ∷ ns) = let h = gated false ns in omega (arith, ints, h)

-- what a window saw of some items, its facts as they are listed
facts-seen : (seen : Followed) (items : List Accepted) → HasSeen seen items → (q : Fact) → times fact_eq (window_facts seen.watch seen.at items) q ≡ presence (weight fact_eq seen.counts q)
facts-seen seen items h q =
    facts-once seen.watch.spot (content_at seen.watch seen.at (numbered 0 items)) q
    ∙ ap presence (sym (h.counted q ∙ h.placed (λ _ _ graph. times fact_eq (facts_in seen.watch.spot graph) q)))

pub moved : (seen now : Followed) (t : ℕ) (items more : List Accepted) (kept : Kept) (change : List (Fact × ℤ)) → 1 ≤ seen.watch.shape.slide → IsReached seen.at t
    → now.watch ≡ seen.watch
    → now.at ≡ Some t
    → now.accepted ≡ kept.accepted
    → TakesIn (gate_of seen.watch seen.at seen.accepted t) kept.items (filter (λ (e : Placed). is_after (option_map (opening seen.watch.shape) (active_window seen.watch.shape t)) e.0.0) seen.placed) now.placed
    → Moves seen.watch.spot seen.placed now.placed seen.counts now.counts [] change
    → HasSeen seen items
    → HasContent seen.watch t kept (items ++ more)
    → HasSeen now (items ++ more) × IsChanged fact_eq (window_facts seen.watch seen.at items) change (window_facts seen.watch (Some t) (items ++ more))
moved seen now t items more kept change slide reached watched at accepted took moves h has =
    let placed : (f : ℕ → ℕ → List Triple → ℤ) → sum_z (λ (e : Placed). f e.0.0 e.0.1 e.1) now.placed ≡ sum_z (λ (n : Numbered). f n.item.time n.number n.item.graph) (content seen.watch t (numbered 0 (items ++ more)))
    = λ f. placed-law seen.watch seen.at t slide reached items f more kept.items seen.placed now.placed has.same h.placed
    (subst (λ n. TakesIn (gate_of seen.watch seen.at n t) kept.items (filter (λ (e : Placed). is_after (option_map (opening seen.watch.shape) (active_window seen.watch.shape t)) e.0.0) seen.placed) now.placed) h.accepted took) in
    let counted : (q : Fact) → weight fact_eq now.counts q ≡ listed seen.watch.spot now.placed q
    = λ q. let m = moves.follows q in let c = h.counted q in omega (arith, ints, m, c) in
    let new : HasSeen now (items ++ more)
    = record {
      accepted = accepted ∙ has.accepted;
      placed = λ f. placed f ∙ ap (λ (p : Watch × Option ℕ). sum_z (λ (n : Numbered). f n.item.time n.number n.item.graph) (content_at p.0 p.1 (numbered 0 (items ++ more)))) (sym (λ i. (watched i, at i)));
      counted = λ q. counted q ∙ ap (λ (w : Watch). listed w.spot now.placed q) (sym watched);
    } in (
      new,
      λ q.
          let was = facts-seen seen items h q in
          let is = sym (λ i. times fact_eq (window_facts (watched i) (at i) (items ++ more)) q) ∙ facts-seen now (items ++ more) new q in
          let told = moves.tells q in
          omega (arith, ints, was, is, told),
    )

-- where the kept items are those of the accepted ones that pass a test, and all of the content pass it, the content is kept
pub has-content : (watch : Watch) (t : ℕ) (kept : Kept) (items : List Accepted) (stays : Numbered → Bool) → kept.accepted ≡ length items
    → map as_accepted kept.items ≡ filter stays (numbered 0 items)
    → ((n : Numbered) → sees watch t n ≡ true → stays n ≡ true)
    → HasContent watch t kept items
has-content watch t kept items stays counted same within =
    record {
      accepted = counted;
      same = ap (λ l. content watch t l) same ∙ filter-twice stays (sees watch t) within (numbered 0 items);
    }
