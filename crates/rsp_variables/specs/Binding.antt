-- Words of the way: what a node's rows bind a variable in, from what those of its children do.
use Rattle.std.specs.Prelude.{◌≡◌, ℕ, Bool, false, not, ◌&&◌, ◌||◌, nat_eq}
use Rattle.std.specs.List.{flat_map}
use Rattle.rsp_algebra.specs.declared.tree.Tree.{Tree}
use Rattle.rsp_algebra.specs.Meanings.{node_of}
use Rattle.rsp_algebra.specs.Nodes as node
use Rattle.rsp_algebra.specs.Nodes.{Node, Single, Double, pattern_variables}
use Rattle.rsp_algebra.specs.Patterns.{among}
use Rattle.rsp_algebra.specs.Work.{bound_in_all, group_variables}
use Rattle.rsp_variables.specs.declared.nodes.Binding.{Binding}
use Rattle.rsp_variables.specs.Possible.{bound_variables}

-- by the one child
abbrev pub certain_over : ℕ → Single → Bool → Bool
certain_over v (node.extend variable _) child = child && not (nat_eq v variable)
certain_over v (node.project variables) child = child && among variables v
certain_over v (node.group keys aggregates) child = among keys v && (child && not (among (group_variables aggregates) v))
certain_over v _ child = child

abbrev pub possible_over : ℕ → Single → Bool → Bool
possible_over v (node.extend variable _) child = nat_eq v variable || child
possible_over v (node.project variables) child = child && among variables v
possible_over v (node.group keys aggregates) child = (among keys v && child) || among (group_variables aggregates) v
possible_over v _ child = child

-- by the two
abbrev pub certain_of : Double → Bool → Bool → Bool
certain_of node.join left right = left || right
certain_of node.union left right = left && right
certain_of _ left right = left

abbrev pub possible_of : Double → Bool → Bool → Bool
possible_of node.join left right = left || right
possible_of (node.left_join _) left right = left || right
possible_of node.union left right = left || right
possible_of _ left right = left

-- the variable is certain in the node's rows, or possible, as a recursion over its children
abbrev pub is_certain : ℕ → Node → Bool
is_certain v node.unit = false
is_certain v (node.pattern place triple) = among (pattern_variables place triple) v
is_certain v (node.values rows) = among (bound_in_all rows) v
is_certain v (node.over single child) = certain_over v single (is_certain v child)
is_certain v (node.of_two double left right) = certain_of double (is_certain v left) (is_certain v right)

abbrev pub is_possible : ℕ → Node → Bool
is_possible v node.unit = false
is_possible v (node.pattern place triple) = among (pattern_variables place triple) v
is_possible v (node.values rows) = among (flat_map bound_variables rows) v
is_possible v (node.over single child) = possible_over v single (is_possible v child)
is_possible v (node.of_two double left right) = possible_of double (is_possible v left) (is_possible v right)

-- what the tree's rows bind the variable in
abbrev pub Binds : ℕ → Binding → Tree → Type 0
Binds v binding tree = (binding.certain ≡ is_certain v (node_of tree)) × (binding.possible ≡ is_possible v (node_of tree))
