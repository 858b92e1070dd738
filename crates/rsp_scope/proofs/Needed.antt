-- The laws of what is kept: when items may be forgotten, and that none is that a window still needs.
use Rattle.std.proofs.Common.{◌≡◌, ℕ, ◌+◌, ◌<◌, ◌≤◌, Bool, true, false, cond, nat_le, Option, None, Some, List, [], ◌∷◌, ◌++◌, All, Contains, length, filter, map, slice_index_or, take, refl, sym, ap, subst, ◌∙◌, append-nil, length-append, le-leb, arith}
use Rattle.std.proofs.lemmas.List.{map-append, take_more}
use Rattle.std.proofs.lemmas.List.Elements.{All-cons, All-filter, All-head, All-nil, All-push, All-tail, filter-append}
use Rattle.std.proofs.lemmas.List.Sums.{sum_by-cons, sum_by-le-sum_by}
use Rattle.rsp_scope.specs.Contents.{Accepted, Numbered, Watch, numbered}
use Rattle.rsp_scope.specs.Ends.{HasContent, as_accepted, AreEnds, EndsAt, IsKept}
use Rattle.rsp_scope.specs.Kept.{Kept, needed, shortened, taken, triples_of}
use Rattle.rsp_scope.specs.Needed.{is_needed, listed_triples, needed_items}
use Rattle.rsp_scope.specs.declared.item.Item.{Item}
use Rattle.rsp_scope.proofs.Endings.{filter-twice, gate-most, sum-filter, triples-push}
use Rattle.rsp_scope.proofs.Follows.{has-content, numbered-append}
use Rattle.rsp_scope.proofs.Needs.{end_late, needed-earlier, needed-unseen, seen-needed}
pub use Rattle.rsp_scope.proofs.Needs.{end_late, ends_joined, ends_none, fewer_need_less}

module _ {X : Type 0} where
  filter-same : (p q : X → Bool) (xs : List X) → All (λ x. p x ≡ q x) xs → filter p xs ≡ filter q xs
  filter-same p q [] h = refl
  filter-same p q (x ∷ xs) h =
      let rest = filter-same p q xs (All-tail (λ x. p x ≡ q x) x xs h) in
      λ i. cond (All-head (λ x. p x ≡ q x) x xs h i) (x ∷ rest i) (rest i)

  all-of-map : {Y : Type 0} (P : Y → Type 0) (f : X → Y) (xs : List X) → All P (map f xs) → All (λ x. P (f x)) xs
  all-of-map P f [] h = All-nil (λ x. P (f x))
  all-of-map P f (x ∷ xs) h =
      All-cons (λ x. P (f x)) x xs (All-head P (f x) (map f xs) h) (all-of-map P f xs (All-tail P (f x) (map f xs) h))

-- the kept item ends where it says
abbrev Ends : List Watch → Item → Type 0
Ends watches item = EndsAt watches (as_accepted item) (Some item.end)

-- of items that end where they say, those that reach an instant are those that are needed there
needed-as : (n : ℕ) (watches : List Watch) (items : List Item) → All (Ends watches) items
    → map as_accepted (needed n items) ≡ filter (is_needed n watches) (map as_accepted items)
needed-as n watches [] ends = refl
needed-as n watches (item ∷ items) ends =
    by (nat_le n item.end) (is_needed n watches (as_accepted item)) (All-head (Ends watches) item items ends n)
    (needed-as n watches items (All-tail (Ends watches) item items ends))
  where
    by : (a b : Bool) → b ≡ a → map as_accepted (needed n items) ≡ filter (is_needed n watches) (map as_accepted items)
        → map as_accepted (cond a (item ∷ needed n items) (needed n items))
        ≡ cond b (as_accepted item ∷ filter (is_needed n watches) (map as_accepted items)) (filter (is_needed n watches) (map as_accepted items))
    by true b is rest =
        ap (λ l. as_accepted item ∷ l) rest
        ∙ ap (λ c. cond c (as_accepted item ∷ filter (is_needed n watches) (map as_accepted items)) (filter (is_needed n watches) (map as_accepted items))) (sym is)
    by false b is rest =
        rest
        ∙ ap (λ c. cond c (as_accepted item ∷ filter (is_needed n watches) (map as_accepted items)) (filter (is_needed n watches) (map as_accepted items))) (sym is)

-- the item that was accepted last
abbrev last_of : List Accepted → Accepted → Numbered
last_of items item = record { number = length items; item = item }

needed-push : (n : ℕ) (watches : List Watch) (items : List Accepted) (item : Accepted) (b : Bool)
    → is_needed n watches (last_of items item) ≡ b
    → needed_items n watches (items ++ item ∷ []) ≡ needed_items n watches items ++ cond b (last_of items item ∷ []) []
needed-push n watches items item b is =
    let at : 0 + length items ≡ length items = omega arith in
    ap (λ l. filter (is_needed n watches) l) (numbered-append 0 items (item ∷ []) ∙ ap (λ m. numbered 0 items ++ numbered m (item ∷ [])) at)
    ∙ (filter-append (is_needed n watches) (numbered 0 items) (last_of items item ∷ [])
    ∙ ap (λ c. needed_items n watches items ++ cond c (last_of items item ∷ []) []) is)

-- at first nothing is kept
pub none_kept : (cut : ℕ) (watches : List Watch) → IsKept cut watches [] (record { accepted = 0; items = [] })
none_kept cut watches = record { accepted = refl; listed = refl; ends = All-nil (Ends watches) }

-- time goes on: what ends before `next` is forgotten
pub passed : (cut next : ℕ) (watches : List Watch) (items : List Accepted) (kept : Kept) → IsKept cut watches items kept → cut ≤ next
    → IsKept next watches items (record kept { items = needed next kept.items })
passed cut next watches items kept h on =
    record {
      accepted = h.accepted;
      listed = needed-as next watches kept.items h.ends
          ∙ (ap (λ l. filter (is_needed next watches) l) h.listed
          ∙ filter-twice (is_needed cut watches) (is_needed next watches) (λ entry. needed-earlier cut next watches entry on) (numbered 0 items));
      ends = All-filter (λ (item : Item). nat_le next item.end) (Ends watches) kept.items h.ends;
    }

-- an item comes, with its end
pub joined : (cut : ℕ) (watches : List Watch) (items : List Accepted) (kept : Kept) (item : Accepted) (until : Option ℕ)
    → IsKept cut watches items kept → cut ≤ item.time → EndsAt watches (record { number = length items; item = item }) until
    → IsKept cut watches (items ++ item ∷ []) (taken kept item.stream item.time item.graph until)
joined cut watches items kept item None h on ends =
    record {
      accepted = omega (arith, h.accepted, length-append items (item ∷ []));
      listed = h.listed ∙ sym (needed-push cut watches items item false (ends cut) ∙ append-nil (needed_items cut watches items));
      ends = h.ends;
    }
joined cut watches items kept item (Some e) h on ends =
    let new : Item = record { number = kept.accepted; stream = item.stream; time = item.time; graph = item.graph; end = e } in
    let late = end_late watches (last_of items item) e ends in
    let is : is_needed cut watches (last_of items item) ≡ true = ends cut ∙ le-leb cut e (omega (arith, on, late)) in
    record {
      accepted = omega (arith, h.accepted, length-append items (item ∷ []));
      listed = map-append as_accepted kept.items (new ∷ [])
          ∙ ((λ i. h.listed i ++ record { number = h.accepted i; item = item } ∷ [])
          ∙ sym (needed-push cut watches items item true is));
      ends = All-push (Ends watches) kept.items new h.ends
          (subst (λ n. EndsAt watches (record { number = n; item = item }) (Some e)) (sym h.accepted) ends);
    }

numbered-below : (n top : ℕ) (items : List Accepted) → n + length items ≤ top → All (λ (entry : Numbered). entry.number < top) (numbered n items)
numbered-below n top [] within = All-nil (λ (entry : Numbered). entry.number < top)
numbered-below n top (item ∷ items) within =
    All-cons (λ (entry : Numbered). entry.number < top) (record { number = n; item = item }) (numbered (n + 1) items) (omega (arith, within))
    (numbered-below (n + 1) top items (omega (arith, within)))

-- a query begins, whose windows see later items alone
pub begun : (cut : ℕ) (watches more : List Watch) (items : List Accepted) (kept : Kept) → IsKept cut watches items kept
    → All (λ (watch : Watch). length items ≤ watch.first) more → IsKept cut (watches ++ more) items kept
begun cut watches more items kept h later =
    record {
      accepted = h.accepted;
      listed = h.listed
          ∙ sym (filter-same (is_needed cut (watches ++ more)) (is_needed cut watches) (numbered 0 items)
          (λ k d below. same cut (slice_index_or (numbered 0 items) k d) (all k d below)));
      ends = λ k d below n. same n (as_accepted (slice_index_or kept.items k d)) (old k d below) ∙ h.ends k d below n;
    }
  where
    same : (n : ℕ) (entry : Numbered) → entry.number < length items → is_needed n (watches ++ more) entry ≡ is_needed n watches entry
    same n entry below = needed-unseen n watches more entry (λ k d within. omega (arith, below, later k d within))

    all : All (λ (entry : Numbered). entry.number < length items) (numbered 0 items)
    all = numbered-below 0 (length items) items (omega arith)

    old : All (λ (item : Item). (as_accepted item).number < length items) kept.items
    old = all-of-map (λ (entry : Numbered). entry.number < length items) as_accepted kept.items
        (subst (λ l. All (λ (entry : Numbered). entry.number < length items) l) (sym h.listed)
        (All-filter (is_needed cut watches) (λ (entry : Numbered). entry.number < length items) (numbered 0 items) all))

shortened-ends : (watches : List Watch) (items : List Item) (untils : List (Option ℕ)) → AreEnds watches items untils
    → All (Ends watches) (shortened items untils)
shortened-ends watches [] [] h = All-nil (Ends watches)
shortened-ends watches [] (until ∷ untils) h = absurd h
shortened-ends watches (item ∷ items) [] h = absurd h
shortened-ends watches (item ∷ items) (None ∷ untils) h = shortened-ends watches items untils h.1
shortened-ends watches (item ∷ items) (Some e ∷ untils) h =
    All-cons (Ends watches) (record item { end = e }) (shortened items untils) h.0 (shortened-ends watches items untils h.1)

shortened-as : (n : ℕ) (watches : List Watch) (items : List Item) (untils : List (Option ℕ)) → AreEnds watches items untils
    → filter (is_needed n watches) (map as_accepted (shortened items untils)) ≡ filter (is_needed n watches) (map as_accepted items)
shortened-as n watches [] [] h = refl
shortened-as n watches [] (until ∷ untils) h = absurd h
shortened-as n watches (item ∷ items) [] h = absurd h
shortened-as n watches (item ∷ items) (None ∷ untils) h =
    let rest = filter (is_needed n watches) (map as_accepted items) in
    shortened-as n watches items untils h.1 ∙ ap (λ b. cond b (as_accepted item ∷ rest) rest) (sym (h.0 n))
shortened-as n watches (item ∷ items) (Some e ∷ untils) h =
    ap (λ l. cond (is_needed n watches (as_accepted item)) (as_accepted item ∷ l) l) (shortened-as n watches items untils h.1)

ends-push : (watches : List Watch) (items : List Item) (untils : List (Option ℕ)) (item : Item) (until : Option ℕ) → AreEnds watches items untils
    → EndsAt watches (as_accepted item) until → AreEnds watches (items ++ item ∷ []) (untils ++ until ∷ [])
ends-push watches [] [] item until ends at = (at, tt)
ends-push watches [] (u ∷ untils) item until ends at = absurd ends
ends-push watches (x ∷ items) [] item until ends at = absurd ends
ends-push watches (x ∷ items) (u ∷ untils) item until ends at = (ends.0, ends-push watches items untils item until ends.1 at)

-- the ends of the first items, and of one more
pub ends_more : (watches : List Watch) (items : List Item) (untils : List (Option ℕ)) (i : ℕ) (d : Item) (until : Option ℕ) → i < length items
    → AreEnds watches (take i items) untils → EndsAt watches (as_accepted (slice_index_or items i d)) until
    → AreEnds watches (take (i + 1) items) (untils ++ until ∷ [])
ends_more watches items untils i d until below ends at =
    subst (λ l. AreEnds watches l (untils ++ until ∷ [])) (sym (take_more items i d below))
    (ends-push watches (take i items) untils (slice_index_or items i d) until ends at)

-- windows go: each kept item gets its end under those that are left, and what then ends before the cut is forgotten
pub lowered : (cut : ℕ) (watches fewer : List Watch) (items : List Accepted) (kept : Kept) (untils : List (Option ℕ))
    → IsKept cut watches items kept
    → ((n : ℕ) (entry : Numbered) → is_needed n fewer entry ≡ true → is_needed n watches entry ≡ true)
    → AreEnds fewer kept.items untils
    → IsKept cut fewer items (record kept { items = needed cut (shortened kept.items untils) })
lowered cut watches fewer items kept untils h less ends =
    record {
      accepted = h.accepted;
      listed = needed-as cut fewer (shortened kept.items untils) (shortened-ends fewer kept.items untils ends)
          ∙ (shortened-as cut fewer kept.items untils ends
          ∙ (ap (λ l. filter (is_needed cut fewer) l) h.listed
          ∙ filter-twice (is_needed cut watches) (is_needed cut fewer) (less cut) (numbered 0 items)));
      ends = All-filter (λ (item : Item). nat_le cut item.end) (Ends fewer) (shortened kept.items untils) (shortened-ends fewer kept.items untils ends);
    }

-- what a window sees at the cut or later is kept
pub content_kept : (cut t : ℕ) (watches : List Watch) (watch : Watch) (items : List Accepted) (kept : Kept) → IsKept cut watches items kept
    → Contains watches watch → cut ≤ t → HasContent watch t kept items
content_kept cut t watches watch items kept h among on =
    has-content watch t kept items (is_needed cut watches) h.accepted h.listed (λ entry. seen-needed cut t watches watch entry among on)

triples-as : (items : List Item) → triples_of items ≡ listed_triples (map as_accepted items)
triples-as [] = refl
triples-as (item ∷ items) =
    sum_by-cons (λ (x : Item). length x.graph) item items
    ∙ (ap (λ n. length item.graph + n) (triples-as items)
    ∙ sym (sum_by-cons (λ (entry : Numbered). length entry.item.graph) (as_accepted item) (map as_accepted items)))

-- the triples held are those of the needed items
pub held_is : (cut : ℕ) (watches : List Watch) (items : List Accepted) (kept : Kept) → IsKept cut watches items kept
    → triples_of kept.items ≡ listed_triples (needed_items cut watches items)
held_is cut watches items kept h = triples-as kept.items ∙ ap listed_triples h.listed

-- what is forgotten holds no more
pub held_falls : (next : ℕ) (items : List Item) → triples_of (needed next items) ≤ triples_of items
held_falls next items =
    let kept = sum-filter (λ (item : Item). nat_le next item.end) (λ (item : Item). length item.graph) items in
    let most = sum_by-le-sum_by (λ (item : Item). cond (nat_le next item.end) (length item.graph) 0) (λ (item : Item). length item.graph) items
    (λ item. gate-most (nat_le next item.end) (length item.graph)) in omega (arith, kept, most)

-- and as an item comes that is needed, at its time
pub held_with : (cut : ℕ) (watches : List Watch) (items : List Accepted) (kept : Kept) (item : Accepted) (e : ℕ) → IsKept cut watches items kept
    → cut ≤ item.time → EndsAt watches (record { number = length items; item = item }) (Some e)
    → triples_of (needed item.time kept.items) + length item.graph ≡ listed_triples (needed_items item.time watches (items ++ item ∷ []))
held_with cut watches items kept item e h on ends =
    let new : Item = record { number = kept.accepted; stream = item.stream; time = item.time; graph = item.graph; end = e } in
    let now = record kept { items = needed item.time kept.items } in
    sym (triples-push (needed item.time kept.items) new)
    ∙ held_is item.time watches (items ++ item ∷ []) (taken now item.stream item.time item.graph (Some e))
    (joined item.time watches items now item (Some e) (passed cut item.time watches items kept h on) (omega arith) ends)

-- or that isn't
pub held_without : (cut : ℕ) (watches : List Watch) (items : List Accepted) (kept : Kept) (item : Accepted) → IsKept cut watches items kept
    → cut ≤ item.time → EndsAt watches (record { number = length items; item = item }) None
    → triples_of (needed item.time kept.items) ≡ listed_triples (needed_items item.time watches (items ++ item ∷ []))
held_without cut watches items kept item h on ends =
    let now = record kept { items = needed item.time kept.items } in
    held_is item.time watches (items ++ item ∷ []) (taken now item.stream item.time item.graph None)
    (joined item.time watches items now item None (passed cut item.time watches items kept h on) (omega arith) ends)
