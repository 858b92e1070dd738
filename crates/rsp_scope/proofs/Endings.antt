-- Sums over runs of endings and over items.
use Rattle.std.proofs.Common.{◌≡◌, ℕ, zero, suc, ◌+◌, ◌<◌, ◌≤◌, Bool, true, false, true≢false, not, ◌==◌, cond, min, nat_le, Option, None, Some, List, [], ◌∷◌, ◌++◌, drop, take, length, filter, sum_by, slice_index_or, slice_set, refl, sym, ap, subst, ◌∙◌, le-leb, arith, eqb-true}
use Rattle.std.specs.List.Retain.{RetainsInTurn}
use Rattle.std.proofs.lemmas.Bool.Decides.{nat_tests}
use Rattle.std.proofs.lemmas.List.{nil_from_length}
use Rattle.std.proofs.lemmas.List.Sums.{sum_by-append, sum_by-cons, sum_by-drop_more, sum_by-le-sum_by, sum_by-set, sum_by-take-drop, sum_by_push}
use Rattle.rsp_scope.specs.Kept.{needed, triples_of, ended, shortened}
use Rattle.rsp_scope.specs.Runs.{AreTied, ending_of, from, one, over, over_items, reaching, triples}
use Rattle.rsp_scope.specs.declared.ends.Ending.{Ending}
use Rattle.rsp_scope.specs.declared.item.Item.{Item}

one-more : (at : ℕ) → at + 1 ≡ suc at
one-more at = omega arith

module _ {X : Type 0} where
  -- a sum over what a filter lets through
  pub sum-filter : (p : X → Bool) (h : X → ℕ) (xs : List X) → sum_by h (filter p xs) ≡ sum_by (λ x. cond (p x) (h x) 0) xs
  sum-filter p h [] = refl
  sum-filter p h (x ∷ xs) = by (p x) (sum-filter p h xs) ∙ sym (sum_by-cons (λ x. cond (p x) (h x) 0) x xs)
    where
      by : (b : Bool) → sum_by h (filter p xs) ≡ sum_by (λ x. cond (p x) (h x) 0) xs
          → sum_by h (cond b (x ∷ filter p xs) (filter p xs)) ≡ cond b (h x) 0 + sum_by (λ x. cond (p x) (h x) 0) xs
      by true rest = sum_by-cons h x (filter p xs) ∙ ap (λ n. h x + n) rest
      by false rest = rest ∙ omega arith

  pub sum-alike : (g h : X → ℕ) → ((x : X) → g x ≡ h x) → (xs : List X) → sum_by g xs ≡ sum_by h xs
  sum-alike g h same [] = refl
  sum-alike g h same (x ∷ xs) = sum_by-cons g x xs ∙ ((λ i. same x i + sum-alike g h same xs i) ∙ sym (sum_by-cons h x xs))

  pub sum-ones : (xs : List X) → sum_by (λ _. 1) xs ≡ length xs
  sum-ones [] = refl
  sum-ones (x ∷ xs) = sum_by-cons (λ _. 1) x xs ∙ (ap (λ n. 1 + n) (sum-ones xs) ∙ omega arith)

  -- within a list the default is never taken
  pub any-default : (xs : List X) (i : ℕ) (d e : X) → i < length xs → slice_index_or xs i d ≡ slice_index_or xs i e
  any-default [] i d e within = absurd (omega (arith, within))
  any-default (x ∷ xs) zero d e within = refl
  any-default (x ∷ xs) (suc i) d e within = any-default xs i d e (omega (arith, within))

  take-set : (xs : List X) (at : ℕ) (y : X) → at < length xs → take (suc at) (slice_set xs at y) ≡ take at xs ++ y ∷ []
  take-set [] at y below = absurd (omega (arith, below))
  take-set (x ∷ xs) zero y below = refl
  take-set (x ∷ xs) (suc at) y below = ap (λ l. x ∷ l) (take-set xs at y (omega (arith, below)))

  pub take-then-set : (xs : List X) (at : ℕ) (y : X) → at < length xs → take (at + 1) (slice_set xs at y) ≡ take at xs ++ y ∷ []
  take-then-set xs at y below = ap (λ n. take n (slice_set xs at y)) (one-more at) ∙ take-set xs at y below

  drop-set : (xs : List X) (at : ℕ) (y : X) → drop (suc at) (slice_set xs at y) ≡ drop (suc at) xs
  drop-set [] at y = refl
  drop-set (x ∷ xs) zero y = refl
  drop-set (x ∷ xs) (suc at) y = drop-set xs at y

  pub drop-then-set : (xs : List X) (at : ℕ) (y : X) → drop (at + 1) (slice_set xs at y) ≡ drop (at + 1) xs
  drop-then-set xs at y =
      ap (λ n. drop n (slice_set xs at y)) (one-more at) ∙ (drop-set xs at y ∙ ap (λ n. drop n xs) (sym (one-more at)))

  -- a filter that lets all through
  pub filter-whole : (p : X → Bool) (xs : List X) → ((k : ℕ) (d : X) → k < length xs → p (slice_index_or xs k d) ≡ true) → filter p xs ≡ xs
  filter-whole p [] all = refl
  filter-whole p (x ∷ xs) all =
      ap (λ b. cond b (x ∷ filter p xs) (filter p xs)) (all 0 x (omega arith))
      ∙ ap (λ l. x ∷ l) (filter-whole p xs (λ k d below. all (suc k) d (omega (arith, below))))

  pub filter-most : (p : X → Bool) (xs : List X) → length (filter p xs) ≤ length xs
  filter-most p [] = omega arith
  filter-most p (x ∷ xs) = by (p x) (filter-most p xs)
    where
      by : (b : Bool) → length (filter p xs) ≤ length xs → length (cond b (x ∷ filter p xs) (filter p xs)) ≤ length (x ∷ xs)
      by true h = omega (arith, h)
      by false h = omega (arith, h)

  -- and one that left out none, as the length tells
  pub filter-long : (p : X → Bool) (xs : List X) → length (filter p xs) ≡ length xs → filter p xs ≡ xs
  filter-long p [] long = refl
  filter-long p (x ∷ xs) long = by (p x) (filter-long p xs) long
    where
      by : (b : Bool) → (length (filter p xs) ≡ length xs → filter p xs ≡ xs) → length (cond b (x ∷ filter p xs) (filter p xs)) ≡ length (x ∷ xs)
          → cond b (x ∷ filter p xs) (filter p xs) ≡ x ∷ xs
      by true rest e = ap (λ l. x ∷ l) (rest (omega (arith, e)))
      by false rest e = absurd (omega (arith, e, filter-most p xs))

  pub filter-twice : (p q : X → Bool) → ((x : X) → q x ≡ true → p x ≡ true) → (xs : List X) → filter q (filter p xs) ≡ filter q xs
  filter-twice p q within [] = refl
  filter-twice p q within (x ∷ xs) = by (p x) (q x) refl (within x) (filter-twice p q within xs)
    where
      by : (a b : Bool) → q x ≡ b → (q x ≡ true → a ≡ true) → filter q (filter p xs) ≡ filter q xs
          → filter q (cond a (x ∷ filter p xs) (filter p xs)) ≡ cond b (x ∷ filter q xs) (filter q xs)
      by true b is k rest = ap (λ c. cond c (x ∷ filter q (filter p xs)) (filter q (filter p xs))) is ∙ ap (λ l. cond b (x ∷ l) l) rest
      by false true is k rest = absurd (true≢false (sym (k is)))
      by false false is k rest = rest

  pub filter-push : (p : X → Bool) (xs : List X) (y : X) → p y ≡ true → filter p (xs ++ y ∷ []) ≡ filter p xs ++ y ∷ []
  filter-push p [] y is = ap (λ b. cond b (y ∷ []) []) is
  filter-push p (x ∷ xs) y is = by (p x) (filter-push p xs y is)
    where
      by : (b : Bool) → filter p (xs ++ y ∷ []) ≡ filter p xs ++ y ∷ []
          → cond b (x ∷ filter p (xs ++ y ∷ [])) (filter p (xs ++ y ∷ [])) ≡ cond b (x ∷ filter p xs) (filter p xs) ++ y ∷ []
      by true rest = ap (λ l. x ∷ l) rest
      by false rest = rest

reaches : (cut next end : ℕ) → cut ≤ next → nat_le next end ≡ true → nat_le cut end ≡ true
reaches cut next end h is = grind (arith, nat_tests, h, is)

-- a later cut
pub needed-later : (cut next : ℕ) (items : List Item) → cut ≤ next → needed next (needed cut items) ≡ needed next items
needed-later cut next items h =
    filter-twice (λ (item : Item). nat_le cut item.end) (λ (item : Item). nat_le next item.end) (λ item is. reaches cut next item.end h is) items

-- an earlier one, over what is kept
pub needed-earlier : (cut next : ℕ) (items : List Item) → next ≤ cut → needed next (needed cut items) ≡ needed cut items
needed-earlier cut next [] h = refl
needed-earlier cut next (item ∷ items) h = by (nat_le cut item.end) refl (needed-earlier cut next items h)
  where
    by : (b : Bool) → nat_le cut item.end ≡ b → needed next (needed cut items) ≡ needed cut items
        → needed next (cond b (item ∷ needed cut items) (needed cut items)) ≡ cond b (item ∷ needed cut items) (needed cut items)
    by true is rest =
        ap (λ c. cond c (item ∷ needed next (needed cut items)) (needed next (needed cut items))) (reaches next cut item.end h is)
        ∙ ap (λ l. item ∷ l) rest
    by false is rest = rest

-- nothing ends before 0
pub needed-zero : (items : List Item) → needed 0 items ≡ items
needed-zero [] = refl
needed-zero (item ∷ items) =
    ap (λ b. cond b (item ∷ needed 0 items) (needed 0 items)) (le-leb 0 item.end (omega arith)) ∙ ap (λ l. item ∷ l) (needed-zero items)

-- the endings that reach an instant are those of the items that do
pub over-needed : (f : Ending → ℕ) (next : ℕ) (items : List Item) → over_items (from next f) items ≡ over_items f (needed next items)
over-needed f next items = sym (sum-filter (λ (item : Item). nat_le next item.end) (λ (item : Item). f (ending_of item)) items)

pub gate-most : (b : Bool) (n : ℕ) → cond b n 0 ≤ n
gate-most true n = omega arith
gate-most false n = omega arith

pub over-most : (next : ℕ) (f : Ending → ℕ) (runs : List (List Ending)) → over (from next f) runs ≤ over f runs
over-most next f runs =
    sum_by-le-sum_by (λ (run : List Ending). sum_by (from next f) run) (λ (run : List Ending). sum_by f run) runs
    (λ run. sum_by-le-sum_by (from next f) f run (λ e. gate-most (nat_le next e.end) (f e)))

-- one run of a walk
pub over-at : (f : Ending → ℕ) (runs : List (List Ending)) (at : ℕ) (run : List Ending) → at < length runs → run ≡ slice_index_or runs at run
    → over f (drop at runs) ≡ sum_by f run + over f (drop (at + 1) runs)
over-at f runs at run below is =
    sum_by-drop_more (λ (r : List Ending). sum_by f r) runs at run below ∙ ap (λ (r : List Ending). sum_by f r + over f (drop (at + 1) runs)) (sym is)

turned : (b : Bool) → not b ≡ false → b ≡ true
turned true h = refl
turned false h = absurd (true≢false h)

-- a run that goes is empty
emptied : (b : Bool) (run : List Ending) → b ≡ not (length run == 0) → b ≡ false → run ≡ []
emptied b run is gone = nil_from_length run (eqb-true (length run) 0 (turned (length run == 0) (sym is ∙ gone)))

-- a walk that lets go of what ends before `next`, and of the runs where nothing is left
pub dropped : {F : Type 0} (R : F → List Ending → Bool → F → List Ending → Type 0) (next : ℕ) (g : F)
    → ((run : List Ending) (b : Bool) (h : F) (left : List Ending) → R g run b h left
    → (left ≡ reaching next run) × (b ≡ not (length left == 0)) × (h ≡ g))
    → (f : Ending → ℕ) (runs left : List (List Ending)) → RetainsInTurn R g runs left
    → over f left ≡ over (from next f) runs
dropped R next g says f [] left h = ap (λ l. over f l) h
dropped R next g says f (run ∷ runs) left h =
    let told = says run h.0 h.1 h.2 h.3 in
    let here : sum_by f h.2 ≡ sum_by (from next f) run
    = ap (λ l. sum_by f l) told.0 ∙ sum-filter (λ (e : Ending). nat_le next e.end) f run in
    let rest = dropped R next g says f runs h.4 (subst (λ u. RetainsInTurn R u runs h.4) told.2 h.5) in
    ap (λ l. over f l) h.6
    ∙ (by h.0 h.2 h.4 told.1
    ∙ ((λ i. here i + rest i) ∙ sym (sum_by-cons (λ (r : List Ending). sum_by (from next f) r) run runs)))
  where
    by : (b : Bool) (y : List Ending) (zs : List (List Ending)) → b ≡ not (length y == 0) → over f (cond b (y ∷ zs) zs) ≡ sum_by f y + over f zs
    by true y zs is = sum_by-cons (λ (r : List Ending). sum_by f r) y zs
    by false y zs is =
        let none : sum_by f y ≡ 0 = ap (λ l. sum_by f l) (emptied false y is refl) in
        omega (arith, none)

-- an ending more in a run
pub put-more : (f : Ending → ℕ) (runs : List (List Ending)) (at : ℕ) (old new : List Ending) (more : ℕ) → at < length runs → old ≡ slice_index_or runs at old
    → sum_by f new ≡ sum_by f old + more
    → over f (slice_set runs at new) ≡ over f runs + more
put-more f runs at old new more below is put =
    let all = sum_by-set (λ (run : List Ending). sum_by f run) runs at new old below in
    let here = ap (λ (run : List Ending). sum_by f run) is in
    omega (arith, all, here, put)

pub tied-later : (runs later : List (List Ending)) (items : List Item) (next : ℕ) → AreTied runs items
    → ((f : Ending → ℕ) → over f later ≡ over (from next f) runs)
    → AreTied later (needed next items)
tied-later runs later items next tied went f = went f ∙ (tied (from next f) ∙ over-needed f next items)

pub triples-from : (runs : List (List Ending)) (items : List Item) (next : ℕ) → AreTied runs items
    → over (from next triples) runs ≡ triples_of (needed next items)
triples-from runs items next tied = tied (from next triples) ∙ over-needed triples next items

pub count-is : (runs : List (List Ending)) (items : List Item) → AreTied runs items → over one runs ≡ length items
count-is runs items tied = tied one ∙ sum-ones items

pub tied-push : (runs later : List (List Ending)) (items : List Item) (item : Item) (ending : Ending) → ending ≡ ending_of item → AreTied runs items
    → ((f : Ending → ℕ) → over f later ≡ over f runs + f ending)
    → AreTied later (items ++ item ∷ [])
tied-push runs later items item ending is tied put f =
    put f
    ∙ ((λ i. tied f i + f (is i))
    ∙ sym (sum_by-append (λ (x : Item). f (ending_of x)) items (item ∷ []) ∙ ap (λ n. over_items f items + n) (omega arith)))

-- an item more
pub triples-push : (items : List Item) (item : Item) → triples_of (items ++ item ∷ []) ≡ triples_of items + length item.graph
triples-push items item = sum_by-append (λ (i : Item). length i.graph) items (item ∷ []) ∙ omega arith

cons-triples : (item : Item) (items : List Item) → triples_of (item ∷ items) ≡ length item.graph + triples_of items
cons-triples item items = sum_by-cons (λ (i : Item). length i.graph) item items

lighter-one : (item : Item) (until : Option ℕ) (items : List Item) (n : ℕ) → triples_of items ≤ n
    → triples_of (ended item until ++ items) ≤ length item.graph + n
lighter-one item None items n h = omega (arith, h)
lighter-one item (Some end) items n h = omega (arith, h, cons-triples (record item { end = end }) items)

-- new ends add no triples
pub shortened-triples : (items : List Item) (untils : List (Option ℕ)) → triples_of (shortened items untils) ≤ triples_of items
shortened-triples [] untils = omega arith
shortened-triples (item ∷ items) [] = omega arith
shortened-triples (item ∷ items) (until ∷ untils) =
    omega (
      arith,
      cons-triples item items,
      lighter-one item until (shortened items untils) (triples_of items) (shortened-triples items untils),
    )

fewer-one : (item : Item) (until : Option ℕ) (items : List Item) (n : ℕ) → length items ≤ n → length (ended item until ++ items) ≤ suc n
fewer-one item None items n h = omega (arith, h)
fewer-one item (Some end) items n h = omega (arith, h)

-- and no items
pub shortened-few : (items : List Item) (untils : List (Option ℕ)) → length (shortened items untils) ≤ length items
shortened-few [] untils = omega arith
shortened-few (item ∷ items) [] = omega arith
shortened-few (item ∷ items) (until ∷ untils) = fewer-one item until (shortened items untils) (length items) (shortened-few items untils)

-- one ending more of a walk over the items from `start` on
pub refill-fits : (items : List Item) (start at : ℕ) (item : Item) (done : ℕ) → at < length items → item ≡ slice_index_or items at item
    → done + over_items triples (drop at items) ≡ over_items triples (drop start items)
    → done + length item.graph ≤ triples_of items
refill-fits items start at item done below is so_far =
    let here : over_items triples (drop at items) ≡ length item.graph + over_items triples (drop (at + 1) items)
    = sum_by-drop_more (λ (x : Item). length x.graph) items at item below ∙ ap (λ (x : Item). length x.graph + over_items triples (drop (at + 1) items)) (sym is) in
    let whole = sum_by-take-drop (λ (x : Item). length x.graph) items start in
    omega (arith, so_far, here, whole)

-- one run more of a walk that fills the runs anew: those in front hold what stands in front of the items
pub refilled : (items : List Item) (runs : List (List Ending)) (at start behind : ℕ) (old new : List Ending) → at < length runs → old ≡ slice_index_or runs at old
    → start ≤ length items
    → length items ≤ start + over one (drop at runs)
    → behind ≡ min (start + length old) (length items)
    → ((f : Ending → ℕ) → sum_by f new + over_items f (drop behind items) ≡ over_items f (drop start items))
    → ((f : Ending → ℕ) → over f (take at runs) + over_items f (drop start items) ≡ over_items f items)
    → (behind ≤ length items)
    × (length items ≤ behind + over one (drop (at + 1) (slice_set runs at new)))
    × ((f : Ending → ℕ) → over f (take (at + 1) (slice_set runs at new)) + over_items f (drop behind items) ≡ over_items f items)
refilled items runs at start behind old new below is within room next held so_far =
    let here = over-at one runs at old below is in
    let long : sum_by one old ≡ length old = sum-ones old in
    let rest : over one (drop (at + 1) (slice_set runs at new)) ≡ over one (drop (at + 1) runs) = ap (λ l. over one l) (drop-then-set runs at new) in (
      omega (arith, next),
      omega (arith, next, here, long, rest, room, within),
      λ f.
          let done : over f (take (at + 1) (slice_set runs at new)) ≡ over f (take at runs) + sum_by f new
          = ap (λ l. over f l) (take-then-set runs at new below) ∙ sum_by_push (λ (run : List Ending). sum_by f run) (take at runs) new in
          let kept = held f in
          let front = so_far f in
          omega (arith, done, kept, front),
    )
