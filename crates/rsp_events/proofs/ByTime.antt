-- A stable sort of the items by time gives `merged`.
use Rattle.std.proofs.Common.{◌≡◌, ℕ, ◌<◌, ◌^◌, Bool, true, false, cond, List, [], ◌∷◌, refl, sym, ap, subst, ◌∙◌}
use Rattle.std.proofs.lemmas.List.MinMax.{ranks_by}
use Rattle.std.specs.Prelude.{◌==◌, nat_lt, filter}
use Rattle.std.specs.Cmp.{IsStrictWeakOrder, nat_cmp_total}
use Rattle.std.specs.List.{AllByRecursion, flat_map}
use Rattle.std.specs.List.Sorted.{IsSortedByKey, IsStableByKey}
use Rattle.std.specs.Ordering.{is_lt, nat_cmp}
use Rattle.std.specs.declared.cmp.Ordering.TheVariants.{Less, Equal, Greater}
use Rattle.rsp_streams_out.proofs.Sorted.{put, put_all, put_all-from_sort}
use Rattle.rsp_events.specs.declared.event.Event.{Event}
use Rattle.rsp_events.specs.Instants.{IsInstant}
use Rattle.rsp_events.specs.Merged.{item_time, merged}
use Rattle.rsp_events.specs.Sorting.{all_items, by_time, is_earlier, is_item, put_in}
use Rattle.rsp_events.proofs.Listing.{merged_is}
use Rattle.rsp_events.proofs.RecordedTimes.{AreInstants, AreInstants-append}

abbrev pub before : Event → Event → Bool
before item other = is_lt (nat_cmp (item_time item) (item_time other))

pub ranks : IsStrictWeakOrder before
ranks = ranks_by nat_cmp_total item_time

less_is : (m n : ℕ) → is_lt (nat_cmp m n) ≡ nat_lt m n
less_is m n =
    elim (nat_lt m n) as (λ v. is_lt (cond v Less (cond (m == n) Equal Greater)) ≡ v) [
      | true ↦ refl
      | false ↦
          elim (m == n) as (λ v. is_lt (cond v Equal Greater) ≡ false) [
            | true ↦ refl
            | false ↦ refl
          ]
    ]

put_in_is : (item : Event) (items : List Event) → put_in item items ≡ put before ranks item items
put_in_is item [] = refl
put_in_is item (first ∷ items) = λ i.
    cond (sym (less_is (item_time first) (item_time item)) i) (first ∷ put_in_is item items i) (item ∷ first ∷ items)

by_time_is : (items : List Event) → by_time items ≡ put_all before ranks items
by_time_is [] = refl
by_time_is (item ∷ items) = put_in_is item (by_time items) ∙ ap (put before ranks item) (by_time_is items)

by_time-from_sort : (items out : List Event) → IsSortedByKey item_time nat_cmp out → IsStableByKey item_time nat_cmp items out → out ≡ by_time items
by_time-from_sort items out sorted stable = put_all-from_sort before ranks items out sorted stable ∙ sym (by_time_is items)

pub merged-from_sort : (lists : List (List Event)) (items out : List Event) → items ≡ all_items lists → AllByRecursion (λ e. item_time e < 2 ^ 64) items
    → IsSortedByKey item_time nat_cmp out → IsStableByKey item_time nat_cmp items out → out ≡ merged lists
merged-from_sort lists items out is low sorted stable =
    by_time-from_sort items out sorted stable
    ∙ (ap by_time is ∙ sym (merged_is lists (subst (AllByRecursion (λ e. item_time e < 2 ^ 64)) is low)))

-- ---- the times

put_in_timed : (item : Event) (items : List Event) → IsInstant item → AreInstants items → AreInstants (put_in item items)
put_in_timed item [] h hs = (h, tt)
put_in_timed item (first ∷ items) h hs =
    elim (is_earlier first item) as (λ v. AreInstants (cond v (first ∷ put_in item items) (item ∷ first ∷ items))) [
      | true ↦ (hs.0, put_in_timed item items h (hs.1))
      | false ↦ (h, hs)
    ]

by_time_timed : (items : List Event) → AreInstants items → AreInstants (by_time items)
by_time_timed [] hs = tt
by_time_timed (item ∷ items) hs = put_in_timed item (by_time items) (hs.0) (by_time_timed items (hs.1))

items_timed : (events : List Event) → AreInstants events → AreInstants (filter is_item events)
items_timed [] hs = tt
items_timed (event ∷ events) hs =
    elim (is_item event) as (λ v. AreInstants (cond v (event ∷ filter is_item events) (filter is_item events))) [
      | true ↦ (hs.0, items_timed events (hs.1))
      | false ↦ items_timed events (hs.1)
    ]

together_timed : (lists : List (List Event)) → AllByRecursion AreInstants lists → AreInstants (flat_map (λ list. list) lists)
together_timed [] hs = tt
together_timed (list ∷ lists) hs = AreInstants-append list _ (hs.0) (together_timed lists (hs.1))

pub sorted_timed : (lists : List (List Event)) (items out : List Event) → items ≡ all_items lists
    → IsSortedByKey item_time nat_cmp out → IsStableByKey item_time nat_cmp items out → AllByRecursion AreInstants lists → AreInstants out
sorted_timed lists items out is sorted stable hs =
    subst AreInstants (sym (by_time-from_sort items out sorted stable ∙ ap by_time is))
    (by_time_timed (all_items lists) (items_timed (flat_map (λ list. list) lists) (together_timed lists hs)))
