-- Words of the way: the variables outside of which no row of a tree binds any.
use Rattle.std.specs.Prelude.{ℕ, is_some, List, [], ◌∷◌, ◌++◌, length, filter}
use Rattle.std.specs.List.{flat_map, range_with_len}
use Rattle.rsp_multiset.specs.Rows.{Cells}
use Rattle.rsp_terms.specs.declared.term.Term.{Term}
use Rattle.rsp_algebra.specs.Nodes as node
use Rattle.rsp_algebra.specs.Nodes.{Node, pattern_variables}
use Rattle.rsp_algebra.specs.Patterns.{cell, among}
use Rattle.rsp_algebra.specs.Work.{group_variables}

-- the variables that the row binds
abbrev pub bound_variables : Cells Term → List ℕ
bound_variables row = filter (λ v. is_some (cell row v)) (range_with_len 0 (length row))

-- variables of which every row of the node binds some and no other
abbrev pub possible_variables : Node → List ℕ
possible_variables node.unit = []
possible_variables (node.pattern place triple) = pattern_variables place triple
possible_variables (node.values rows) = flat_map bound_variables rows
possible_variables (node.over (node.extend variable _) child) = variable ∷ possible_variables child
possible_variables (node.over (node.project variables) child) = filter (among variables) (possible_variables child)
possible_variables (node.over (node.group keys aggregates) child) =
    filter (among (possible_variables child)) keys ++ group_variables aggregates
possible_variables (node.over _ child) = possible_variables child
possible_variables (node.of_two node.join left right) = possible_variables left ++ possible_variables right
possible_variables (node.of_two (node.left_join _) left right) = possible_variables left ++ possible_variables right
possible_variables (node.of_two node.union left right) = possible_variables left ++ possible_variables right
possible_variables (node.of_two _ left _) = possible_variables left
