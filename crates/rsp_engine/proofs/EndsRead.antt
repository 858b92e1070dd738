-- Until when an item is needed, by the windows over its stream alone.
use Rattle.std.proofs.Common.{◌≡◌, ℕ, suc, ◌+◌, ◌<◌, ◌≤◌, Bool, true, false, cond, ◌||◌, ◌&&◌, max, nat_le, Option, None, Some, List, [], ◌∷◌, ◌++◌, All, filter, length, map, take, get_or, refl, sym, ap, ◌∙◌, arith, le-leb, bytes_eq}
use Rattle.std.specs.List.{list_any}
use Rattle.std.specs.Option.{option_map_or}
use Rattle.std.proofs.lemmas.Bool.Decides.{nat_tests}
use Rattle.std.proofs.lemmas.List.{take_all, take_more}
use Rattle.std.proofs.lemmas.List.Folds.{list_any-append}
use Rattle.rsp_spec.specs.Windows as shapes
use Rattle.rsp_scope.specs.Contents.{Numbered}
use Rattle.rsp_scope.specs.Ends.{EndsAt, later}
use Rattle.rsp_scope.specs.Needed.{is_needed, is_needed_by}
use Rattle.rsp_engine.specs.declared.live_query.LiveQuery.{LiveQuery}
use Rattle.rsp_engine.specs.declared.live_query.StreamWindow.{StreamWindow}
use Rattle.rsp_engine.specs.declared.readers.PlacedWindow.{PlacedWindow}
use Rattle.rsp_engine.specs.Contents.{watches, watches_from}
use Rattle.rsp_engine.specs.Keeping.{watches_by, watches_followed}
use Rattle.rsp_engine.specs.Readers.{IsEndBy, needs, placed, placed_from}

or_false : (b : Bool) → (b || false) ≡ b
or_false true = refl
or_false false = refl

later_test : (n : ℕ) (a b : Option ℕ) → (option_map_or (λ e. nat_le n e) a false || option_map_or (λ e. nat_le n e) b false)
    ≡ option_map_or (λ e. nat_le n e) (later a b) false
later_test n None b = refl
later_test n (Some a) None = or_false (nat_le n a)
later_test n (Some a) (Some b) = by (nat_le n a) (nat_le n b) refl refl
  where
    by : (x y : Bool) → nat_le n a ≡ x → nat_le n b ≡ y → (x || y) ≡ nat_le n (max a b)
    by true y first second = let more : n ≤ a = grind (arith, nat_tests, first) in sym (le-leb n (max a b) (omega (arith, more)))
    by false true first second = let more : n ≤ b = grind (arith, nat_tests, second) in sym (le-leb n (max a b) (omega (arith, more)))
    by false false first second = grind (arith, nat_tests, first, second)

and_none : (a b : Bool) → (a && (false && b)) ≡ false
and_none true b = refl
and_none false b = refl

-- ---- windows, one after another

module _ (windows : List PlacedWindow) (number time : ℕ) where
  -- one more
  pub window_more : (i : ℕ) (window : PlacedWindow) (end until : Option ℕ) → i < length windows → window ≡ get_or windows i window
      → IsEndBy (take i windows) number time end → IsEndBy (window ∷ []) number time until
      → IsEndBy (take (i + 1) windows) number time (later end until)
  window_more i window end until below is so_far here n =
      ap (list_any (needs n number time)) (take_more windows i window below ∙ ap (λ w. take i windows ++ w ∷ []) (sym is))
      ∙ (list_any-append (needs n number time) (take i windows) (window ∷ [])
      ∙ ((λ k. so_far n k || here n k) ∙ later_test n end until))

  pub all_windows : (i : ℕ) (end : Option ℕ) → length windows ≤ i → IsEndBy (take i windows) number time end → IsEndBy windows number time end
  all_windows i end past so_far n = ap (list_any (needs n number time)) (sym (take_all i windows past)) ∙ so_far n

-- a window that sees later items alone doesn't need it
pub not_seen : (window : PlacedWindow) (number time : ℕ) → number < window.first → IsEndBy (window ∷ []) number time None
not_seen window number time before n =
    let unseen : nat_le window.first number ≡ false = grind (arith, nat_tests, before) in
    ap (λ b. b && shapes.is_needed window.shape time n || false) unseen

pub by_shape : (window : PlacedWindow) (number time : ℕ) (last : Option ℕ) → window.first ≤ number
    → ((n : ℕ) → shapes.is_needed window.shape time n ≡ option_map_or (λ l. nat_le n l) last false)
    → IsEndBy (window ∷ []) number time last
by_shape window number time last seen needed n =
    ap (λ b. b && shapes.is_needed window.shape time n || false) (le-leb window.first number seen)
    ∙ (or_false (shapes.is_needed window.shape time n) ∙ needed n)

-- ---- the queries

module _ (n : ℕ) (entry : Numbered) where
  abbrev stream : List ℕ
  stream = entry.item.stream

  abbrev is_over : StreamWindow → Bool
  is_over w = bytes_eq stream w.stream

  -- the windows of a query that are over the item's stream decide whether it needs it
  by_windows : (place first k : ℕ) (windows : List StreamWindow) → is_needed n (watches_from first k windows) entry
      ≡ list_any (needs n entry.number entry.item.time) (placed stream place first windows)
  by_windows place first k [] = refl
  by_windows place first k (w ∷ windows) = by (is_over w) (by_windows place first (k + 1) windows)
    where
      by : (b : Bool)
          → is_needed n (watches_from first (k + 1) windows) entry
          ≡ list_any (needs n entry.number entry.item.time) (placed stream place first windows)
          → ((nat_le first entry.number && (b && shapes.is_needed w.shape entry.item.time n)) || is_needed n (watches_from first (k + 1) windows) entry)
          ≡ list_any (needs n entry.number entry.item.time)
          (map {B = PlacedWindow} (λ (v : StreamWindow). record { place = place; first = first; shape = v.shape })
          (cond b (w ∷ filter is_over windows) (filter is_over windows)))
      by true rest = ap (λ b. (nat_le first entry.number && shapes.is_needed w.shape entry.item.time n) || b) rest
      by false rest =
          ap (λ b. b || is_needed n (watches_from first (k + 1) windows) entry) (and_none (nat_le first entry.number) (shapes.is_needed w.shape entry.item.time n))
          ∙ rest

  by_queries : {A : Type 0} (k : ℕ) (queries : List (LiveQuery A))
      → All (λ live. watches_followed live.contents.items ≡ watches live.first live.windows) queries
      → is_needed n (watches_by queries) entry ≡ list_any (needs n entry.number entry.item.time) (placed_from stream k queries)
  by_queries k [] are = refl
  by_queries k (live ∷ queries) are =
      let own : is_needed n (watches_followed live.contents.items) entry ≡ list_any (needs n entry.number entry.item.time) (placed stream k live.first live.windows) =
      ap (λ ws. is_needed n ws entry) (are 0 live (omega arith)) ∙ by_windows k live.first 0 live.windows in
      let rest = by_queries (suc k) queries (λ j d within. are (suc j) d (omega (arith, within))) in
      list_any-append (is_needed_by n entry) (watches_followed live.contents.items) (watches_by queries)
      ∙ ((λ i. own i || rest i)
      ∙ sym (list_any-append (needs n entry.number entry.item.time) (placed stream k live.first live.windows) (placed_from stream (suc k) queries)))

-- the item's end is that by the windows over its stream
pub ends_read : {A : Type 0} (queries : List (LiveQuery A)) (entry : Numbered) (end : Option ℕ)
    → All (λ live. watches_followed live.contents.items ≡ watches live.first live.windows) queries
    → IsEndBy (placed_from entry.item.stream 0 queries) entry.number entry.item.time end → EndsAt (watches_by queries) entry end
ends_read queries entry end are is n = by_queries n entry 0 queries are ∙ is n
