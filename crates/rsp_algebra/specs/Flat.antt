-- Words of the way: a tree laid flat: its nodes one by one, children before parents, and the stack of nodes that such a list
-- builds.
use Rattle.std.specs.Prelude.{List, [], ◌∷◌, ◌++◌}
use Rattle.std.specs.List.{fold}
use Rattle.rsp_algebra.specs.Nodes as node
use Rattle.rsp_algebra.specs.Nodes.{Node, Single, Double}

-- a node without its children
pub data Part : Type 0 where
  leaf : Node → Part
  above : Single → Part
  pair : Double → Part

-- the parts of a tree, those of the left child first
abbrev pub flat : Node → List Part
flat (node.over single child) = flat child ++ above single ∷ []
flat (node.of_two double left right) = flat left ++ (flat right ++ pair double ∷ [])
flat childless = leaf childless ∷ []

-- the stack behind a part: it takes its children from there, and is put in their place
abbrev pub built : List Node → Part → List Node
built stack (leaf childless) = childless ∷ stack
built (child ∷ stack) (above single) = node.over single child ∷ stack
built (right ∷ left ∷ stack) (pair double) = node.of_two double left right ∷ stack
built stack part = stack

-- the top of the stack behind each part in turn
abbrev pub top : List Node → List Node
top [] = []
top (node ∷ stack) = node ∷ []

abbrev pub tops : List Node → List Part → List Node
tops stack [] = []
tops stack (part ∷ parts) = top (built stack part) ++ tops (built stack part) parts
