-- Words of the way: the ends of items, and the kept items as those that are still needed.
use Rattle.std.specs.Prelude.{◌≡◌, ℕ, false, nat_le, max, Option, None, Some, List, length, map, All}
use Rattle.std.specs.List.{AllZip}
use Rattle.std.specs.Option.{option_map_or}
use Rattle.rsp_scope.specs.Contents.{Accepted, Numbered, Watch, content, numbered}
use Rattle.rsp_scope.specs.Kept.{Kept}
use Rattle.rsp_scope.specs.Needed.{is_needed, needed_items}
use Rattle.rsp_scope.specs.declared.item.Item.{Item}

-- a kept item as it was accepted
abbrev pub as_accepted : Item → Numbered
as_accepted item =
    record { number = item.number; item = record { stream = item.stream; time = item.time; graph = item.graph } }

-- of these accepted items, each one in the content at t is kept, as it was accepted
pub record HasContent (watch : Watch) (t : ℕ) (kept : Kept) (items : List Accepted) : Type 0 where
  pub accepted : kept.accepted ≡ length items
  pub same : content watch t (map as_accepted kept.items) ≡ content watch t (numbered 0 items)

-- the end of an item: it is needed exactly up to there, and never where there is none
abbrev pub EndsAt : List Watch → Numbered → Option ℕ → Type 0
EndsAt watches entry end = (n : ℕ) → is_needed n watches entry ≡ option_map_or (λ e. nat_le n e) end false

-- item by item the ends; the lists are as long
abbrev pub AreEnds : List Watch → List Item → List (Option ℕ) → Type 0
AreEnds watches items untils = AllZip (λ (item : Item) (until : Option ℕ). EndsAt watches (as_accepted item) until) items untils

-- kept are exactly the items that are needed at `cut`, each with its end
pub record IsKept (cut : ℕ) (watches : List Watch) (items : List Accepted) (kept : Kept) : Type 0 where
  pub accepted : kept.accepted ≡ length items
  pub listed : map as_accepted kept.items ≡ needed_items cut watches items
  pub ends : All (λ (item : Item). EndsAt watches (as_accepted item) (Some item.end)) kept.items

-- the later of two ends
abbrev pub later : Option ℕ → Option ℕ → Option ℕ
later None b = b
later (Some a) None = Some a
later (Some a) (Some b) = Some (max a b)
