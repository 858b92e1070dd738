-- Words of the way: the nodes from a tree down along its first children.
use Rattle.std.specs.Prelude.{◌≡◌, ℕ, ◌≤◌, Option, None, Some, List, [], ◌∷◌}
use Rattle.std.specs.Borrow.{Bor}
use Rattle.std.specs.Option.{IsSomeAnd}
use Rattle.std.specs.List.{AllByRecursion}
use Rattle.rsp_algebra.specs.declared.tree.Tree.{Tree, size-Tree}
use Rattle.rsp_algebra.specs.declared.tree.Tree.TheVariants.{Unit, Pattern, Join', LeftJoin', Union', Minus', Exists', NotExists'}
use Rattle.rsp_algebra.specs.declared.tree.Tree.TheVariants.{Filter', Extend', Values, Project', Distinct', Group'}

-- the left one of two children, or the only one
abbrev pub first_of : Tree → Option Tree
first_of Unit = None
first_of (Pattern place subject predicate object) = None
first_of (Join' _ left _ right) = Some left
first_of (LeftJoin' _ left _ right condition) = Some left
first_of (Union' _ left _ right) = Some left
first_of (Minus' _ left _ right) = Some left
first_of (Exists' _ left _ right condition) = Some left
first_of (NotExists' _ left _ right condition) = Some left
first_of (Filter' _ child condition) = Some child
first_of (Extend' _ child variable expression) = Some child
first_of (Values rows) = None
first_of (Project' _ child variables) = Some child
first_of (Distinct' _ child) = Some child
first_of (Group' _ child keys aggregates) = Some child

-- the right one of two children
abbrev pub second_of : Tree → Option Tree
second_of (Join' _ left _ right) = Some right
second_of (LeftJoin' _ left _ right condition) = Some right
second_of (Union' _ left _ right) = Some right
second_of (Minus' _ left _ right) = Some right
second_of (Exists' _ left _ right condition) = Some right
second_of (NotExists' _ left _ right condition) = Some right
second_of _ = None

-- from a tree down these nodes, each the first child of the one before, to a tree of which P holds
abbrev pub Leads : Option Tree → List (Bor Tree) → (Tree → Type 0) → Type 0
Leads tree [] P = IsSomeAnd tree P
Leads tree (node ∷ nodes) P = (tree ≡ Some node.now) × Leads (first_of node.now) nodes P

-- none of the nodes is deeper than this
abbrev pub AreNoDeeper : ℕ → List (Bor Tree) → Type 0
AreNoDeeper depth nodes = AllByRecursion (λ (node : Bor Tree). size-Tree node.now ≤ depth) nodes
