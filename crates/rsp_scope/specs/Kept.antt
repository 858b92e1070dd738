-- Words of the way: the kept items. An item is kept until its end; all times are in milliseconds since 1970.
use Rattle.std.specs.Prelude.{ℕ, ◌+◌, nat_le, Option, None, Some, List, [], ◌∷◌, ◌++◌, length, filter, sum_by}
use Rattle.rsp_terms.specs.declared.statement.Triple.{Triple}
use Rattle.rsp_scope.specs.declared.item.Item.{Item}

-- how many items were accepted, and those of them that are kept, in the order of acceptance
pub record Kept : Type 0 where
  pub accepted : ℕ
  pub items : List Item

-- the items that end at `next` or later
abbrev pub needed : ℕ → List Item → List Item
needed next items = filter (λ (item : Item). nat_le next item.end) items

-- the triples of some items, as listed
abbrev pub triples_of : List Item → ℕ
triples_of items = sum_by (λ (item : Item). length item.graph) items

-- an item gets the next number; it is kept if it has an end
abbrev pub taken : Kept → List ℕ → ℕ → List Triple → Option ℕ → Kept
taken kept stream time graph None = record kept { accepted = kept.accepted + 1 }
taken kept stream time graph (Some end) =
    record {
      accepted = kept.accepted + 1;
      items = kept.items ++ record { number = kept.accepted; stream = stream; time = time; graph = graph; end = end } ∷ [];
    }

-- the item with its new end, or nothing where it has none
abbrev pub ended : Item → Option ℕ → List Item
ended item None = []
ended item (Some end) = record item { end = end } ∷ []

-- each item with its new end
abbrev pub shortened : List Item → List (Option ℕ) → List Item
shortened (item ∷ items) (until ∷ untils) = ended item until ++ shortened items untils
shortened items untils = []
