-- Words of the way: the ends of the kept items, beside the items, in runs that don't fall.
use Rattle.std.specs.Prelude.{◌≡◌, ℕ, nat_le, cond, List, length, filter, sum_by}
use Rattle.std.specs.List.Sorted.{IsNonDecreasingBy}
use Rattle.rsp_scope.specs.declared.item.Item.{Item}
use Rattle.rsp_scope.specs.declared.ends.Ending.{Ending}
use Rattle.rsp_scope.specs.declared.ends.Run.TheInside.{Inside}

abbrev pub ending_of : Item → Ending
ending_of item = record { end = item.end; triples = length item.graph }

-- the endings at `next` or later
abbrev pub reaching : ℕ → List Ending → List Ending
reaching next endings = filter (λ (e : Ending). nat_le next e.end) endings

abbrev pub triples_in : List Ending → ℕ
triples_in endings = sum_by (λ (e : Ending). e.triples) endings

-- what f makes of the endings at `next` or later, and nothing of the others
abbrev pub from : ℕ → (Ending → ℕ) → Ending → ℕ
from next f e = cond (nat_le next e.end) (f e) 0

-- what f makes of all endings of all runs
abbrev pub over : (Ending → ℕ) → List (List Ending) → ℕ
over f runs = sum_by (λ (run : List Ending). sum_by f run) runs

-- and of the endings of some items
abbrev pub over_items : (Ending → ℕ) → List Item → ℕ
over_items f items = sum_by (λ (item : Item). f (ending_of item)) items

abbrev pub triples : Ending → ℕ
triples e = e.triples

abbrev pub one : Ending → ℕ
one e = 1

-- the endings of the runs are those of the items
abbrev pub AreTied : List (List Ending) → List Item → Type 0
AreTied runs items = (f : Ending → ℕ) → over f runs ≡ over_items f items

abbrev pub run_of : Inside → List Ending
run_of s = s.rising.items

pub record IsRun (s : Inside) : Type 0 where
  pub order : IsNonDecreasingBy (λ (e : Ending). e.end) s.rising.items
  pub triples : s.triples ≡ triples_in s.rising.items
