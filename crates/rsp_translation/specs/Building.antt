-- Words of the way: a query's setting and a group so far as the code keeps them, and the EXISTS of a group, which the code takes
-- behind its other elements.
use Rattle.std.specs.Prelude.{ℕ, ◌+◌, List, [], ◌∷◌, ◌++◌, map}
use Rattle.std.specs.Option.{option_map}
use Rattle.rsp_query.specs.Groups.{Part, Parts, triple, optional, minus, union, graph, window, filter}
use Rattle.rsp_query.specs.Groups.{exists, bind, values, sub, no_part, part_then}
use Rattle.rsp_algebra.specs.declared.tree.Place.{Place}
use Rattle.rsp_algebra.specs.Nodes as node
use Rattle.rsp_algebra.specs.Nodes.{Node}
use Rattle.rsp_algebra.specs.Meanings.{node_of}
use Rattle.rsp_shapes.specs.Shapes.{declared}
use Rattle.rsp_translation.specs.declared.setting.Setting as code_setting
use Rattle.rsp_translation.specs.declared.begun.Begun as code_begun
use Rattle.rsp_translation.specs.Paths.{from_left, path_node}
use Rattle.rsp_translation.specs.Begun.{Setting, Test, Begun, condition_of, slashes_of, closed, with_tree, with_triple}
use Rattle.rsp_translation.specs.Begun.{elements_node, group_node, group_nodes, select_node}
use Rattle.rsp_translation.specs.Trees.{graph_place, window_place, values_row, joined}

abbrev pub fixed_by : code_setting.Setting → Setting
fixed_by setting = record {
  names = setting.names.now;
  windows = declared setting.windows.now;
  width = setting.width;
}

abbrev pub begun_of : code_begun.Begun → Begun
begun_of group = record {
  tree = node_of group.tree;
  run = option_map node_of group.run;
  tests = [];
}

-- without its EXISTS
abbrev pub bare : Begun → Begun
bare group = record { tree = group.tree; run = group.run; tests = [] }

-- what a part has as a tree of its own; the unit where it has none
abbrev pub own_node : Setting → Place → ℕ → Part → Node
own_node s at fresh (triple subject verb object) = path_node at fresh subject verb object
own_node s at fresh (filter condition) = node.unit
own_node s at fresh (exists negated word body) = node.unit
own_node s at fresh (optional body) = elements_node s at fresh body
own_node s at fresh (minus body) = group_node s at fresh body
own_node s at fresh (union groups) = from_left (node.of_two node.union) (group_nodes s at fresh groups)
own_node s at fresh (graph name word body) = group_node s (graph_place name) fresh body
own_node s at fresh (window name word body) = group_node s (window_place s.windows name) fresh body
own_node s at fresh (bind v formula) = node.unit
own_node s at fresh (values variables rows) = node.values (map (values_row s.width variables) rows)
own_node s at fresh (sub inner) = select_node s at fresh inner

-- the group with one more part, of which this is the tree, without its EXISTS
abbrev pub with_own : Begun → Node → Part → Begun
with_own group tree (triple subject verb object) = with_triple group tree
with_own group tree (filter condition) = group
with_own group tree (exists negated word body) = group
with_own group tree (optional body) = with_tree group (node.of_two (node.left_join (condition_of body)) (closed group) tree)
with_own group tree (minus body) = with_tree group (node.of_two node.minus (closed group) tree)
with_own group tree (union groups) = with_tree group (joined (closed group) tree)
with_own group tree (graph name word body) = with_tree group (joined (closed group) tree)
with_own group tree (window name word body) = with_tree group (joined (closed group) tree)
with_own group tree (bind v formula) = with_tree group (node.over (node.extend v formula) (closed group))
with_own group tree (values variables rows) = with_tree group (joined (closed group) tree)
with_own group tree (sub inner) = with_tree group (joined (closed group) tree)

abbrev pub tests_of : Setting → Place → ℕ → Part → List Test
tests_of s at fresh (exists negated word body) =
    record { negated = negated; tree = elements_node s at fresh body; condition = condition_of body } ∷ []
tests_of s at fresh _ = []

abbrev pub tests_in : Setting → Place → ℕ → Parts → List Test
tests_in s at fresh no_part = []
tests_in s at fresh (part_then part more) = tests_of s at fresh part ++ tests_in s at (fresh + slashes_of part) more
