-- Definitions: the trees of property paths (SPARQL 1.1 Query, sections 18.2.2.3 and 18.2.2.4).
use Rattle.std.specs.Prelude.{ℕ, suc, ◌+◌, List, [], ◌∷◌}
use Rattle.std.specs.List.{fold}
use Rattle.rsp_expr.specs.declared.slot.Slot.{Slot}
use Rattle.rsp_expr.specs.declared.slot.Slot.TheVariants.{Variable}
use Rattle.rsp_query.specs.Paths.{Way, Ways, step, inverse, sequence, choice, no_way, way_then, slashes}
use Rattle.rsp_algebra.specs.declared.tree.Place.{Place}
use Rattle.rsp_algebra.specs.Nodes as node
use Rattle.rsp_algebra.specs.Nodes.{Node}

-- ---- trees

-- nodes joined from the left, by a join or a union; the unit where there are none
abbrev pub from_left : (Node → Node → Node) → List Node → Node
from_left by [] = node.unit
from_left by (first ∷ others) = fold by first others

abbrev pub triple_node : Place → Slot → Slot → Slot → Node
triple_node place subject predicate object =
    node.pattern place (record { subject = subject; predicate = predicate; object = object })

-- where a part of a `/` ends: at the end of the whole, or at the variable of the `/` behind it
abbrev pub end_of : Slot → ℕ → Ways → Slot
end_of object fresh no_way = object
end_of object fresh (way_then way more) = Variable fresh

-- The tree of a path from subject to object. The `/` of the path have the variables from `fresh` on, in the order of the text.
abbrev mutual
  pub path_node : Place → ℕ → Slot → Way → Slot → Node
  path_node place fresh subject (step predicate) object = triple_node place subject predicate object
  path_node place fresh subject (inverse way) object = path_node place fresh object way subject
  path_node place fresh subject (sequence ways) object = from_left (node.of_two node.join) (steps place fresh subject ways object)
  path_node place fresh subject (choice ways) object =
      from_left (node.of_two node.union) (choices place fresh subject ways object)

  -- one behind the other
  pub steps : Place → ℕ → Slot → Ways → Slot → List Node
  steps place fresh subject no_way object = []
  steps place fresh subject (way_then way more) object =
      path_node place fresh subject way (end_of object (fresh + slashes way) more)
      ∷ steps place (suc (fresh + slashes way)) (Variable (fresh + slashes way)) more object

  -- each from subject to object
  pub choices : Place → ℕ → Slot → Ways → Slot → List Node
  choices place fresh subject no_way object = []
  choices place fresh subject (way_then way more) object =
      path_node place fresh subject way object ∷ choices place (fresh + slashes way) subject more object
