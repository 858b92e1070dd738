-- The ends of the kept items by the windows of the live queries, and what is let go.
use Rattle.std.proofs.Common.{◌≡◌, ℕ, zero, suc, ◌+◌, ◌≤◌, Bool, true, false, true≢false, cond, ◌||◌, min, nat_eq, nat_le, nat_lt, Option, None, Some, List, [], ◌∷◌, ◌++◌, ◌<◌, All, length, take, slice_get, slice_index_or, refl, sym, ap, ◌∙◌, subst, eqb-true, le-leb, leb-true, arith}
use Rattle.std.proofs.lemmas.Bool.Decides.{nat_tests}
use Rattle.std.proofs.lemmas.List.Elements.{All-cons, All-filter, All-head, All-nil, All-tail, All-weaker}
use Rattle.std.proofs.lemmas.List.{map_push, take_more}
use Rattle.std.proofs.lemmas.List.Folds.{list_any-append}
use Rattle.std.proofs.lemmas.Option.{same_Some}
use Rattle.std.specs.Option.{option_eq}
use Rattle.rsp_scope.specs.Contents.{Accepted, Numbered, Watch}
use Rattle.rsp_scope.specs.Ends.{as_accepted, AreEnds, EndsAt, IsKept, later}
use Rattle.rsp_scope.specs.Moves.{Followed}
use Rattle.rsp_scope.specs.Kept.{Kept, needed, shortened, triples_of}
use Rattle.rsp_scope.specs.Needed.{is_needed, is_needed_by}
use Rattle.rsp_scope.specs.declared.item.Item.{Item}
use Rattle.rsp_scope.proofs.Endings.{filter-most, needed-later}
use Rattle.rsp_scope.proofs.Needed.{held_falls, lowered, passed}
use Rattle.rsp_scope.proofs.Needs.{ends_joined}
use Rattle.rsp_engine.specs.Keeping.{EndsBy, IsLess, excess, watches_by, watches_followed}
use Rattle.rsp_engine.specs.declared.live_query.LiveQuery.{LiveQuery}

-- ---- the ends

-- an item, where a default is asked for
abbrev pub no_item : Item
no_item = record { number = 0; stream = []; time = 0; graph = []; end = 0 }

both : (a b : Bool) → (b ≡ true → a ≡ true) → (a ≡ true → b ≡ true) → a ≡ b
both true b back on = sym (on refl)
both false true back on = back refl
both false false back on = refl

-- the windows of one more of a query's contents
pub end_more : (contents : List Followed) (i : ℕ) (content : Followed) (entry : Numbered) (end until : Option ℕ) → i < length contents
    → content ≡ slice_index_or contents i content → EndsAt (watches_followed (take i contents)) entry end
    → EndsAt (content.watch ∷ []) entry until → EndsAt (watches_followed (take (i + 1) contents)) entry (later end until)
end_more contents i content entry end until below is before here =
    let more : take (i + 1) contents ≡ take i contents ++ content ∷ [] =
    take_more contents i content below ∙ ap (λ x. take i contents ++ x ∷ []) (sym is) in
    let watches : watches_followed (take (i + 1) contents) ≡ watches_followed (take i contents) ++ content.watch ∷ [] =
    ap watches_followed more ∙ map_push (λ (seen : Followed). seen.watch) (take i contents) content in
    subst (λ ws. EndsAt ws entry (later end until)) (sym watches)
    (ends_joined (watches_followed (take i contents)) (content.watch ∷ []) entry end until before here)

-- what some of the windows need up to `most`, and none of them beyond it, ends there by all of them
capped : (some all : List Watch) (entry : Numbered) (most : ℕ)
    → ((n : ℕ) → is_needed n some entry ≡ true → is_needed n all entry ≡ true)
    → EndsAt some entry (Some most) → EndsBy all entry most → EndsAt all entry (Some most)
capped some all entry most more ends within n =
    both (is_needed n all entry) (nat_le n most) (λ is. more n (ends n ∙ is)) (λ is. le-leb n most (within n is))

or_front : (a b : Bool) → a ≡ true → (a || b) ≡ true
or_front true b is = refl
or_front false b is = absurd (true≢false (sym is))

or_back : (a b : Bool) → b ≡ true → (a || b) ≡ true
or_back true b is = refl
or_back false b is = is

-- what one of the queries needs is needed
needed_by_one : {A : Type 0} (queries : List (LiveQuery A)) (place : ℕ) (live : LiveQuery A) (entry : Numbered) (n : ℕ)
    → slice_get queries place ≡ Some live
    → is_needed n (watches_followed live.contents.items) entry ≡ true → is_needed n (watches_by queries) entry ≡ true
needed_by_one [] place live entry n is needed = absurd (cc)
needed_by_one {A} (query ∷ queries) zero live entry n is needed =
    list_any-append (is_needed_by n entry) (watches_followed query.contents.items) (watches_by queries)
    ∙ or_front (is_needed n (watches_followed query.contents.items) entry) (is_needed n (watches_by queries) entry)
    (subst (λ (l : LiveQuery A). is_needed n (watches_followed l.contents.items) entry ≡ true) (sym (same_Some query live is)) needed)
needed_by_one (query ∷ queries) (suc place) live entry n is needed =
    list_any-append (is_needed_by n entry) (watches_followed query.contents.items) (watches_by queries)
    ∙ or_back (is_needed n (watches_followed query.contents.items) entry) (is_needed n (watches_by queries) entry)
    (needed_by_one queries place live entry n is needed)

-- the end that one query gives is the item's, where none gives a later one
pub given_end : {A : Type 0} (queries : List (LiveQuery A)) (place : ℕ) (live : LiveQuery A) (entry : Numbered) (until : Option ℕ) (most : ℕ)
    → slice_get queries place ≡ Some live → option_eq nat_eq until (Some most) ≡ true
    → EndsAt (watches_followed live.contents.items) entry until
    → EndsBy (watches_by queries) entry most → EndsAt (watches_by queries) entry (Some most)
given_end queries place live entry None most is same ends within = absurd (true≢false (sym same))
given_end queries place live entry (Some end) most is same ends within =
    capped (watches_followed live.contents.items) (watches_by queries) entry most (λ n. needed_by_one queries place live entry n is)
    (subst (λ e. EndsAt (watches_followed live.contents.items) entry (Some e)) (eqb-true end most same) ends) within

-- kept items end by what fewer windows need of them
pub ends_by : (before : ℕ) (all fewer : List Watch) (items : List Accepted) (kept : Kept)
    → ((n : ℕ) (entry : Numbered) → is_needed n fewer entry ≡ true → is_needed n all entry ≡ true)
    → IsKept before all items kept → All (λ (item : Item). EndsBy fewer (as_accepted item) item.end) kept.items
ends_by before all fewer items kept less h =
    All-weaker (λ (item : Item). EndsAt all (as_accepted item) (Some item.end)) (λ (item : Item). EndsBy fewer (as_accepted item) item.end)
    (λ item ends n needed. leb-true n item.end (sym (ends n) ∙ less n (as_accepted item) needed)) kept.items h.ends

-- the end that was found by the fields of an item is the item's own
pub end_of_item : (watches : List Watch) (item : Item) (number : ℕ) (stream : List ℕ) (time most : ℕ) (end : Option ℕ)
    → number ≡ item.number → stream ≡ item.stream → time ≡ item.time → most ≡ item.end
    → (EndsBy watches (record { number = number; item = record { stream = stream; time = time; graph = item.graph } }) most
    → EndsAt watches (record { number = number; item = record { stream = stream; time = time; graph = item.graph } }) end)
    → EndsBy watches (as_accepted item) item.end → EndsAt watches (as_accepted item) end
end_of_item watches item number stream time most end number_is stream_is time_is most_is =
    subst (λ (found : Numbered × ℕ). EndsBy watches found.0 found.1 → EndsAt watches found.0 end)
    (λ i. (record { number = number_is i; item = record { stream = stream_is i; time = time_is i; graph = item.graph } }, most_is i))

-- ---- the triples that would be kept

not_more : (n : ℕ) → n ≤ 1000000 → nat_lt 1000000 n ≡ false
not_more n within = grind (arith, nat_tests, within)

-- where all kept items together are few, those from an instant on are
pub no_excess : (kept : Kept) (time triples : ℕ) → triples_of kept.items + triples ≤ 1000000 → None ≡ excess kept time triples
no_excess kept time triples few =
    let many = triples_of (needed time kept.items) + triples in
    let within : many ≤ 1000000 = omega (arith, few, held_falls time kept.items) in
    sym (ap (λ b. cond b (Some (min many 18446744073709551615)) None) (not_more many within))

-- ---- what is let go

abbrev IsBy : ℕ → Item → Type 0
IsBy high item = item.time ≤ high

shortened-timed : (high : ℕ) (items : List Item) (untils : List (Option ℕ)) → All (IsBy high) items → All (IsBy high) (shortened items untils)
shortened-timed high [] [] timed = All-nil (IsBy high)
shortened-timed high [] (until ∷ untils) timed = All-nil (IsBy high)
shortened-timed high (item ∷ items) [] timed = All-nil (IsBy high)
shortened-timed high (item ∷ items) (None ∷ untils) timed = shortened-timed high items untils (All-tail (IsBy high) item items timed)
shortened-timed high (item ∷ items) (Some e ∷ untils) timed =
    All-cons (IsBy high) (record item { end = e }) (shortened items untils) (All-head (IsBy high) item items timed)
    (shortened-timed high items untils (All-tail (IsBy high) item items timed))

shortened-most : (items : List Item) (untils : List (Option ℕ)) → length (shortened items untils) ≤ length items
shortened-most [] [] = omega arith
shortened-most [] (until ∷ untils) = omega arith
shortened-most (item ∷ items) [] = omega arith
shortened-most (item ∷ items) (None ∷ untils) = omega (arith, shortened-most items untils)
shortened-most (item ∷ items) (Some e ∷ untils) = omega (arith, shortened-most items untils)

-- what ends before the cut
pub less_passed : (cut : ℕ) (old : Kept) → IsLess old (record old { items = needed cut old.items })
less_passed cut old =
    record {
      accepted = refl;
      timed = λ high timed. All-filter (λ (item : Item). nat_le cut item.end) (IsBy high) old.items timed;
    }

pub few_passed : (cut : ℕ) (items : List Item) → length (needed cut items) ≤ length items
few_passed cut items = filter-most (λ (item : Item). nat_le cut item.end) items

pub kept_passed : (before cut : ℕ) (all now : List Watch) (items : List Accepted) (kept : Kept) → before ≤ cut → now ≡ all
    → IsKept before all items kept → IsKept cut now items (record kept { items = needed cut kept.items })
kept_passed before cut all now items kept on same h =
    subst (λ ws. IsKept cut ws items (record kept { items = needed cut kept.items })) (sym same) (passed before cut all items kept h on)

-- and what fewer windows don't need
pub less_lowered : (cut : ℕ) (old : Kept) (untils : List (Option ℕ)) → IsLess old (record old { items = needed cut (shortened old.items untils) })
less_lowered cut old untils =
    record {
      accepted = refl;
      timed = λ high timed.
          All-filter (λ (item : Item). nat_le cut item.end) (IsBy high) (shortened old.items untils) (shortened-timed high old.items untils timed);
    }

pub few_lowered : (cut : ℕ) (items : List Item) (untils : List (Option ℕ)) → length (needed cut (shortened items untils)) ≤ length items
few_lowered cut items untils = omega (arith, few_passed cut (shortened items untils), shortened-most items untils)

pub kept_lowered : (before cut : ℕ) (all fewer : List Watch) (items : List Accepted) (kept : Kept) (untils : List (Option ℕ))
    → AreEnds fewer kept.items untils → before ≤ cut
    → ((n : ℕ) (entry : Numbered) → is_needed n fewer entry ≡ true → is_needed n all entry ≡ true)
    → IsKept before all items kept → IsKept cut fewer items (record kept { items = needed cut (shortened kept.items untils) })
kept_lowered before cut all fewer items kept untils ends on less h =
    subst (λ l. IsKept cut fewer items (record kept { items = l })) (needed-later before cut (shortened kept.items untils) on)
    (passed before cut fewer items (record kept { items = needed before (shortened kept.items untils) })
    (lowered before all fewer items kept untils h less ends) on)
