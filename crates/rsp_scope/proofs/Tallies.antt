-- Counts that follow a content, item by item.
use Rattle.std.proofs.Common.{Ordering, Less, Equal, Greater, ◌≡◌, ℕ, zero, suc, ◌+◌, ◌<◌, ◌≤◌, Bool, true, false, cond, Option, None, Some, List, [], ◌∷◌, ℤ, pos, negsuc, ◌+ℤ◌, ◌<ℤ◌, neg_ℤ, drop, length, filter, map, get_or, slice_get, refl, sym, ap, subst, ◌∙◌, arith}
use Rattle.std.specs.List.{list_any, AllByRecursion}
use Rattle.std.specs.Map.{keys_of, lookup}
use Rattle.std.specs.Option.{unwrap_or}
use Rattle.std.specs.Ordering.{is_eq, is_gt, match_ordering, nat_cmp, ordering_then}
use Rattle.std.specs.BTreeMap.{insert_entry}
use Rattle.std.proofs.lemmas.Bool.Decides.{nat_tests}
use Rattle.std.proofs.lemmas.Int.{ints}
use Rattle.std.proofs.lemmas.List.{at_drop_more}
use Rattle.std.proofs.lemmas.Map.Keys.{le_from_not_gt}
use Rattle.std.proofs.lemmas.Option.{none-some}
use Rattle.rsp_multiset.specs.Weights.{sum_z, only, times, weight}
use Rattle.rsp_multiset.proofs.Changing.{times-absent, times-present}
use Rattle.rsp_terms.specs.declared.statement.Fact.{Fact}
use Rattle.rsp_terms.specs.Same.{fact_eq}
use Rattle.rsp_scope.specs.Contents.{facts_in}
use Rattle.rsp_scope.specs.Moves.{Moves, Placed, TakesIn, Tells, counted_by, is_after, listed, presence}
use Rattle.rsp_scope.specs.declared.gate.Gate.{Gate}
use Rattle.rsp_scope.specs.declared.item.Item.{Item}

module _ {E : Type 0} (eq : E → E → Bool) where
  -- a change in two steps
  pub told-on : (a b c d e f : List (E × ℤ)) → Tells eq a b d e → Tells eq b c e f → Tells eq a c d f
  told-on a b c d e f h g q = let x = h q in let y = g q in omega (arith, ints, x, y)

  less-one : (b : Bool) → only b (negsuc 0) ≡ neg_ℤ (only b (pos 1))
  less-one true = refl
  less-one false = refl

  counted-less : (xs : List E) (q : E) → sum_z (λ x. only (eq q x) (negsuc 0)) xs ≡ neg_ℤ (times eq xs q)
  counted-less [] q = refl
  counted-less (x ∷ xs) q = let h = counted-less xs q in let k = less-one (eq q x) in omega (arith, ints, h, k)

  -- the next value of a walk is counted
  pub counted-next : {X : Type 0} (made : X → E) (xs : List X) (i : ℕ) (x : X) (value : E) (by before after whole : ℤ) (q : E) → i < length xs → x ≡ get_or xs i x → value ≡ made x
      → after ≡ before +ℤ only (eq q value) by
      → before +ℤ sum_z (λ e. only (eq q e) by) (map made (drop i xs)) ≡ whole
      → after +ℤ sum_z (λ e. only (eq q e) by) (map made (drop (i + 1) xs)) ≡ whole
  counted-next made xs i x value by before after whole q below is so counted so_far =
      let step : sum_z (λ e. only (eq q e) by) (map made (drop i xs)) ≡ only (eq q (made x)) by +ℤ sum_z (λ e. only (eq q e) by) (map made (drop (i + 1) xs)) =
      at_drop_more (λ ys. sum_z (λ e. only (eq q e) by) (map made ys)) xs i x below
      ∙ ap (λ y. only (eq q (made y)) by +ℤ sum_z (λ e. only (eq q e) by) (map made (drop (i + 1) xs))) (sym is)
      in
      let one : after ≡ before +ℤ only (eq q (made x)) by = counted ∙ ap (λ y. before +ℤ only (eq q y) by) so in
      omega (arith, ints, step, one, so_far)

  presence-some : (n : ℤ) → pos 0 <ℤ n → presence n ≡ pos 1
  presence-some (pos zero) h = absurd (omega (arith, ints, h))
  presence-some (pos (suc n)) h = refl
  presence-some (negsuc n) h = refl

  pub presence-times : (xs : List E) (q : E) → presence (times eq xs q) ≡ only (list_any (eq q) xs) (pos 1)
  presence-times xs q = by (list_any (eq q) xs) refl
    where
      by : (b : Bool) → list_any (eq q) xs ≡ b → presence (times eq xs q) ≡ only b (pos 1)
      by true is = presence-some (times eq xs q) (times-present eq xs q is)
      by false is = ap presence (times-absent eq xs q is)

-- moves one after the other
pub moved-on : (k : ℕ) (p p' p'' : List Placed) (c c' c'' d d' d'' : List (Fact × ℤ)) → Moves k p p' c c' d d' → Moves k p' p'' c' c'' d' d'' → Moves k p p'' c c'' d d''
moved-on k p p' p'' c c' c'' d d' d'' h g =
    record {
      follows = λ q. let x = h.follows q in let y = g.follows q in omega (arith, ints, x, y);
      tells = told-on fact_eq c c' c'' d d' d'' h.tells g.tells;
    }

pub moved-then : (k k' : ℕ) (p p' p'' : List Placed) (c c' c'' d d' d'' : List (Fact × ℤ)) → k' ≡ k → Moves k p p' c c' d d' → Moves k' p' p'' c' c'' d' d'' → Moves k p p'' c c'' d d''
moved-then k k' p p' p'' c c' c'' d d' d'' same h g =
    moved-on k p p' p'' c c' c'' d d' d'' h (subst (λ n. Moves n p' p'' c' c'' d' d'') same g)

-- one item of a walk is taken in, or not
pub took-next : (before after part here rest whole : ℤ) → after ≡ before +ℤ here → part ≡ here +ℤ rest → before +ℤ part ≡ whole → after +ℤ rest ≡ whole
took-next before after part here rest whole made split so_far = omega (arith, ints, made, split, so_far)

pub took-as : (gate gate' : Gate) (items : List Item) (p p' now : List Placed) → gate ≡ gate' → p ≡ p' → TakesIn gate items p now → TakesIn gate' items p' now
took-as gate gate' items p p' now same left took =
    subst (λ g. TakesIn g items p' now) same (subst (λ l. TakesIn gate items l now) left took)

pub moved-none : (k : ℕ) (p : List Placed) (c d : List (Fact × ℤ)) → Moves k p p c c d d
moved-none k p c d = record { follows = λ q. refl; tells = λ q. refl }

-- the first item left
pub moved-left : (k : ℕ) (e : Placed) (p p' : List Placed) (c c' d d' : List (Fact × ℤ)) → p ≡ e ∷ p'
    → ((q : Fact) → weight fact_eq c' q ≡ weight fact_eq c q +ℤ counted_by (negsuc 0) (facts_in k e.1) q)
    → Tells fact_eq c c' d d'
    → Moves k p p' c c' d d'
moved-left k e p p' c c' d d' is counted tells =
    record {
      follows = λ q.
          let all = ap (λ l. listed k l q) is in
          let less = counted-less fact_eq (facts_in k e.1) q in
          let count = counted q in
          omega (arith, ints, all, less, count);
      tells = tells;
    }

-- an item entered
pub moved-in : (k : ℕ) (e : Placed) (p p' : List Placed) (c c' d d' : List (Fact × ℤ)) → ((f : Placed → ℤ) → sum_z f p' ≡ sum_z f p +ℤ f e)
    → ((q : Fact) → weight fact_eq c' q ≡ weight fact_eq c q +ℤ counted_by (pos 1) (facts_in k e.1) q)
    → Tells fact_eq c c' d d'
    → Moves k p p' c c' d d'
moved-in k e p p' c c' d d' content counted tells =
    record {
      follows = λ q.
          let all = content (λ (x : Placed). times fact_eq (facts_in k x.1) q) in
          let count = counted q in
          omega (arith, ints, all, count);
      tells = tells;
    }

module _ {K X : Type 0} (cmp : K → K → Ordering) where
  -- a free place takes one item more
  pub inserted : (es : List (K × X)) (k : K) (v : X) → lookup (λ q. is_eq (cmp k q)) es ≡ None → (f : K × X → ℤ)
      → sum_z f (insert_entry cmp es k v) ≡ sum_z f es +ℤ f (k, v)
  inserted [] k v absent f = omega (arith, ints)
  inserted (e ∷ es) k v absent f = by (cmp k e.0) (λ h. inserted es k v h f) absent
    where
      by : (o : Ordering) → (lookup (λ q. is_eq (cmp k q)) es ≡ None → sum_z f (insert_entry cmp es k v) ≡ sum_z f es +ℤ f (k, v))
          → cond (is_eq o) (Some e.1) (lookup (λ q. is_eq (cmp k q)) es) ≡ None
          → sum_z f (match_ordering o ((k, v) ∷ e ∷ es) ((e.0, v) ∷ es) (e ∷ insert_entry cmp es k v)) ≡ (f e +ℤ sum_z f es) +ℤ f (k, v)
      by Less rest absent = omega (arith, ints)
      by Equal rest absent = absurd (none-some e.1 (sym absent))
      by Greater rest absent = let h = rest absent in omega (arith, ints, h)

-- a later time is after the opening too
after-later : (opening : Option ℕ) (a b : ℕ) → a ≤ b → is_after opening a ≡ true → is_after opening b ≡ true
after-later None a b h is = is
after-later (Some o) a b h is = grind (arith, nat_tests)

then-not-gt : (x y : Ordering) → is_gt (ordering_then x y) ≡ false → is_gt x ≡ false
then-not-gt Less y h = refl
then-not-gt Equal y h = refl
then-not-gt Greater y h = h

abbrev pub by_place : ℕ × ℕ → ℕ × ℕ → Ordering
by_place a b = ordering_then (nat_cmp a.0 b.0) (nat_cmp a.1 b.1)

-- where the first stays, all do
pub all-stay : (opening : Option ℕ) (place : ℕ × ℕ) (es : List Placed) → AllByRecursion (λ p. is_gt (by_place place p) ≡ false) (keys_of es) → is_after opening place.0 ≡ true
    → filter (λ (e : Placed). is_after opening e.0.0) es ≡ es
all-stay opening place [] h is = refl
all-stay opening place (e ∷ es) h is =
    let later : place.0 ≤ e.0.0 = le_from_not_gt place.0 e.0.0 (then-not-gt (nat_cmp place.0 e.0.0) (nat_cmp place.1 e.0.1) h.0) in
    ap (λ b. cond b (e ∷ filter (λ (x : Placed). is_after opening x.0.0) es) (filter (λ (x : Placed). is_after opening x.0.0) es)) (after-later opening place.0 e.0.0 later is)
    ∙ ap (λ l. e ∷ l) (all-stay opening place es h.1 is)

-- where the first leaves, the others are what is left to look at
pub first-leaves : (opening : Option ℕ) (e : Placed) (es : List Placed) → slice_get es 0 ≡ Some e → is_after opening e.0.0 ≡ false
    → (0 < length es) × (filter (λ (x : Placed). is_after opening x.0.0) (drop 1 es) ≡ filter (λ (x : Placed). is_after opening x.0.0) es)
first-leaves opening e [] is gone = absurd (none-some e is)
first-leaves opening e (x ∷ es) is gone =
    let first : x ≡ e = ap (λ o. unwrap_or o x) is in
    (omega arith, sym (ap (λ b. cond b (x ∷ filter (λ (y : Placed). is_after opening y.0.0) es) (filter (λ (y : Placed). is_after opening y.0.0) es)) (ap (λ (y : Placed). is_after opening y.0.0) first ∙ gone)))
