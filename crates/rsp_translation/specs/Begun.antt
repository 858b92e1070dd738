-- Words of the way: a group so far, as its tree is built part by part.
use Rattle.std.specs.Prelude.{ℕ, ◌+◌, Bool, cond, List, [], ◌∷◌, ◌++◌, Option, None, Some, map}
use Rattle.std.specs.List.{fold}
use Rattle.rsp_expr.specs.Formulas.{Formula, formulas_in, conjunction}
use Rattle.rsp_query.specs.Groups.{Part, Parts, Groups, Selection, triple, optional, minus, union, graph, window, filter}
use Rattle.rsp_query.specs.Groups.{exists, bind, values, sub, no_part, part_then, no_group, group_then, selection}
use Rattle.rsp_query.specs.Paths.{slashes}
use Rattle.rsp_algebra.specs.declared.tree.Place.{Place}
use Rattle.rsp_algebra.specs.Nodes as node
use Rattle.rsp_algebra.specs.Nodes.{Node}
use Rattle.rsp_translation.specs.Paths.{from_left, path_node}
use Rattle.rsp_translation.specs.Selects.{selected}
pub use Rattle.rsp_translation.specs.Trees.{Setting, graph_place, window_place, value_for, values_row, filtered, joined}

-- the conditions of a group's own filters
abbrev pub filter_of : Part → List Formula
filter_of (filter condition) = condition ∷ []
filter_of _ = []

abbrev pub filters : Parts → List Formula
filters no_part = []
filters (part_then part more) = filter_of part ++ filters more

-- all of them; true where there are none
abbrev pub condition_of : Parts → Formula
condition_of body = conjunction (formulas_in (filters body))

-- ---- the `/` in a group

abbrev mutual
  pub slashes_of : Part → ℕ
  slashes_of (triple subject verb object) = slashes verb
  slashes_of (optional body) = slashes_in body
  slashes_of (minus body) = slashes_in body
  slashes_of (union groups) = slashes_among groups
  slashes_of (graph name at body) = slashes_in body
  slashes_of (window name at body) = slashes_in body
  slashes_of (filter condition) = 0
  slashes_of (exists negated at body) = slashes_in body
  slashes_of (bind v formula) = 0
  slashes_of (values variables rows) = 0
  slashes_of (sub inner) = slashes_within inner

  pub slashes_in : Parts → ℕ
  slashes_in no_part = 0
  slashes_in (part_then part more) = slashes_of part + slashes_in more

  pub slashes_among : Groups → ℕ
  slashes_among no_group = 0
  slashes_among (group_then group more) = slashes_in group + slashes_among more

  pub slashes_within : Selection → ℕ
  slashes_within (selection distinct star items body grouped keys having aggregates) = slashes_in body

-- ---- groups

-- EXISTS, or NOT EXISTS where negated: the tree of its group without its own filters, and their conjunction
pub record Test : Type 0 where
  pub negated : Bool
  pub tree : Node
  pub condition : Formula

abbrev pub tested : Node → Test → Node
tested left test =
    cond test.negated (node.of_two (node.not_exists test.condition) left test.tree)
    (node.of_two (node.exists test.condition) left test.tree)

-- A group so far: the tree of the elements before the run of triples at its end; the join of this run, if one stands there;
-- and the EXISTS of the group, which are tested at the end.
pub record Begun : Type 0 where
  pub tree : Node
  pub run : Option Node
  pub tests : List Test

abbrev pub nothing : Begun
nothing = record { tree = node.unit; run = None; tests = [] }

-- at the end of the run
abbrev pub with_run : Node → Option Node → Node
with_run tree None = tree
with_run tree (Some run) = joined tree run

abbrev pub closed : Begun → Node
closed group = with_run group.tree group.run

-- behind an element that ends the run
abbrev pub with_tree : Begun → Node → Begun
with_tree group tree = record { tree = tree; run = None; tests = group.tests }

abbrev pub longer : Option Node → Node → Node
longer None part = part
longer (Some run) part = node.of_two node.join run part

abbrev pub with_triple : Begun → Node → Begun
with_triple group part = record { tree = group.tree; run = Some (longer group.run part); tests = group.tests }

abbrev pub with_test : Begun → Test → Begun
with_test group test = record { tree = group.tree; run = group.run; tests = group.tests ++ (test ∷ []) }

-- a group of these parts, at its end
abbrev pub finished : Parts → Begun → Node
finished body group = fold tested (filtered (filters body) (closed group)) group.tests

-- At a place, where the `/` of what is translated have the variables from `fresh` on, in the order of the text. The elements are
-- taken in order, the filters apart: these don't end a run of triples, and each other element does.
abbrev mutual
  -- the group with one more part
  pub with_part : Setting → Place → ℕ → Begun → Part → Begun
  with_part s at fresh group (triple subject verb object) = with_triple group (path_node at fresh subject verb object)
  with_part s at fresh group (filter condition) = group
  with_part s at fresh group (exists negated word body) =
      with_test group
      (record { negated = negated; tree = closed (with_parts s at fresh nothing body); condition = condition_of body })
  with_part s at fresh group (optional body) =
      with_tree group
      (node.of_two (node.left_join (condition_of body)) (closed group) (closed (with_parts s at fresh nothing body)))
  with_part s at fresh group (minus body) =
      with_tree group (node.of_two node.minus (closed group) (finished body (with_parts s at fresh nothing body)))
  with_part s at fresh group (union groups) =
      with_tree group (joined (closed group) (from_left (node.of_two node.union) (group_nodes s at fresh groups)))
  with_part s at fresh group (graph name word body) =
      with_tree group (joined (closed group) (finished body (with_parts s (graph_place name) fresh nothing body)))
  with_part s at fresh group (window name word body) =
      with_tree group (joined (closed group) (finished body (with_parts s (window_place s.windows name) fresh nothing body)))
  with_part s at fresh group (bind v formula) = with_tree group (node.over (node.extend v formula) (closed group))
  with_part s at fresh group (values variables rows) =
      with_tree group (joined (closed group) (node.values (map (values_row s.width variables) rows)))
  with_part s at fresh group (sub inner) = with_tree group (joined (closed group) (select_node s at fresh inner))

  pub with_parts : Setting → Place → ℕ → Begun → Parts → Begun
  with_parts s at fresh group no_part = group
  with_parts s at fresh group (part_then part more) =
      with_parts s at (fresh + slashes_of part) (with_part s at fresh group part) more

  pub group_nodes : Setting → Place → ℕ → Groups → List Node
  group_nodes s at fresh no_group = []
  group_nodes s at fresh (group_then body more) =
      finished body (with_parts s at fresh nothing body) ∷ group_nodes s at (fresh + slashes_in body) more

  pub select_node : Setting → Place → ℕ → Selection → Node
  select_node s at fresh (selection distinct star items body grouped keys having aggregates) =
      selected s.names (selection distinct star items body grouped keys having aggregates)
      (finished body (with_parts s at fresh nothing body))

-- a group without its filters, and a whole group
abbrev pub elements_node : Setting → Place → ℕ → Parts → Node
elements_node s at fresh body = closed (with_parts s at fresh nothing body)

abbrev pub group_node : Setting → Place → ℕ → Parts → Node
group_node s at fresh body = finished body (with_parts s at fresh nothing body)
