-- Words of the way: the order in which kept items stand.
use Rattle.std.specs.Prelude.{ℕ, ◌<◌, ◌≤◌, ⊤, List, [], ◌∷◌}
use Rattle.std.specs.List.{AllByRecursion}
use Rattle.rsp_scope.specs.declared.item.Item.{Item}

-- n doesn't fall
abbrev pub AreRising : (Item → ℕ) → List Item → Type 0
AreRising n [] = ⊤
AreRising n (item ∷ items) = AllByRecursion (λ (other : Item). n item ≤ n other) items × AreRising n items

abbrev pub number_of : Item → ℕ
number_of item = item.number

-- the numbers rise and are below that of the next item
pub record AreInOrder (accepted : ℕ) (items : List Item) : Type 0 where
  pub below : AllByRecursion (λ (item : Item). item.number < accepted) items
  pub numbers : AreRising number_of items
