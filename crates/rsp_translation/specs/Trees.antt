-- Definitions: the trees of groups and SELECTs (SPARQL 1.1 Query, section 18.2.2).
use Rattle.std.specs.Prelude.{ℕ, ◌+◌, cond, nat_eq, List, [], ◌∷◌, ◌++◌, Option, None, Some, map}
use Rattle.std.specs.List.{filter_map, fold, position_or_len}
use Rattle.std.specs.Str.{bytes_eq}
use Rattle.rsp_multiset.specs.Rows.{Cells}
use Rattle.rsp_terms.specs.declared.term.Term.{Term}
use Rattle.rsp_expr.specs.declared.slot.Slot.{Slot}
use Rattle.rsp_expr.specs.declared.slot.Slot.TheVariants as slot
use Rattle.rsp_expr.specs.Formulas.{Formula, formulas_in, conjunction}
use Rattle.rsp_query.specs.Groups.{Part, Parts, Groups, Selection, triple, optional, minus, union, graph, window, filter}
use Rattle.rsp_query.specs.Groups.{exists, bind, values, sub, no_part, part_then, no_group, group_then, selection}
use Rattle.rsp_query.specs.Walks.{slashes_in}
use Rattle.rsp_algebra.specs.declared.tree.Place.{Place}
use Rattle.rsp_algebra.specs.declared.tree.Place.TheVariants as place
use Rattle.rsp_algebra.specs.Nodes as node
use Rattle.rsp_algebra.specs.Nodes.{Node}
use Rattle.rsp_algebra.specs.Patterns.{row_by}
use Rattle.rsp_translation.specs.Paths.{from_left, path_node}
use Rattle.rsp_translation.specs.Selects.{selected}

-- what a query fixes for all its groups: the names of its variables, its windows, and the width of rows
pub record Setting : Type 0 where
  pub names : List (List ℕ)
  pub windows : List (List ℕ)
  pub width : ℕ

-- ---- places

-- the place of GRAPH
abbrev pub graph_place : Slot → Place
graph_place (slot.Variable v) = place.AnyNamed v
graph_place (slot.Constant name) = place.Named name

-- the place of WINDOW
abbrev pub window_place : List (List ℕ) → List ℕ → Place
window_place windows name = place.Window (position_or_len (bytes_eq name) windows)

-- ---- rows of VALUES

-- the value for a variable in a row of values for these variables
abbrev pub value_for : List ℕ → List (Option Term) → ℕ → Option Term
value_for [] cells v = None
value_for (variable ∷ more) [] v = None
value_for (variable ∷ more) (cell ∷ cells) v = cond (nat_eq v variable) cell (value_for more cells v)

abbrev pub values_row : ℕ → List ℕ → List (Option Term) → Cells Term
values_row width variables cells = row_by width (value_for variables cells)

-- ---- the elements of a group

-- what an element is for its group: triples, which are joined with those beside them first; what it makes of the tree of the
-- elements before it; a filter; or the test of an EXISTS, for the tree of the whole group
pub data Clause : Type 0 where
  triples : Node → Clause
  behind : (Node → Node) → Clause
  filtering : Formula → Clause
  testing : (Node → Node) → Clause

-- the unit vanishes on the left of a join
abbrev pub joined : Node → Node → Node
joined node.unit right = right
joined left right = node.of_two node.join left right

-- behind a run of triples
abbrev pub with_run : Node → List Node → Node
with_run tree [] = tree
with_run tree (first ∷ others) = joined tree (fold (node.of_two node.join) first others)

-- with the clauses from left to right, behind a tree and a run of triples; neither a filter nor an EXISTS ends a run
abbrev pub built : Node → List Node → List Clause → Node
built tree run [] = with_run tree run
built tree run (triples next ∷ more) = built tree (run ++ (next ∷ [])) more
built tree run (behind f ∷ more) = built (f (with_run tree run)) [] more
built tree run (_ ∷ more) = built tree run more

-- without filters and tests
abbrev pub elements : List Clause → Node
elements clauses = built node.unit [] clauses

abbrev pub filter_in : Clause → Option Formula
filter_in (filtering condition) = Some condition
filter_in _ = None

abbrev pub filters_in : List Clause → List Formula
filters_in clauses = filter_map filter_in clauses

-- all filters of a group; true where there are none
abbrev pub condition : List Clause → Formula
condition clauses = conjunction (formulas_in (filters_in clauses))

abbrev pub filtered : List Formula → Node → Node
filtered [] tree = tree
filtered (first ∷ others) tree = node.over (node.filter (conjunction (formulas_in (first ∷ others)))) tree

abbrev pub tested_by : Node → Clause → Node
tested_by tree (testing test) = test tree
tested_by tree _ = tree

-- a whole group: its filters hold of the tree of its elements, and its tests of that
abbrev pub group : List Clause → Node
group clauses = fold tested_by (filtered (filters_in clauses) (elements clauses)) clauses

-- At a place, where the `/` of what is translated have the variables from `fresh` on, in the order of the text.
abbrev mutual
  pub clause : Setting → Place → ℕ → Part → Clause
  clause s at fresh (triple subject verb object) = triples (path_node at fresh subject verb object)
  clause s at fresh (filter formula) = filtering formula
  clause s at fresh (exists negated word body) = testing (λ left.
      node.of_two (cond negated node.not_exists node.exists (condition (clauses s at fresh body))) left
      (elements (clauses s at fresh body)))
  clause s at fresh (optional body) = behind (λ left.
      node.of_two (node.left_join (condition (clauses s at fresh body))) left (elements (clauses s at fresh body)))
  clause s at fresh (minus body) = behind (λ left. node.of_two node.minus left (group (clauses s at fresh body)))
  clause s at fresh (union groups) =
      behind (λ left. joined left (from_left (node.of_two node.union) (group_nodes s at fresh groups)))
  clause s at fresh (graph name word body) = behind (λ left. joined left (group (clauses s (graph_place name) fresh body)))
  clause s at fresh (window name word body) =
      behind (λ left. joined left (group (clauses s (window_place s.windows name) fresh body)))
  clause s at fresh (bind v formula) = behind (λ left. node.over (node.extend v formula) left)
  clause s at fresh (values variables rows) =
      behind (λ left. joined left (node.values (map (values_row s.width variables) rows)))
  clause s at fresh (sub inner) = behind (λ left. joined left (select_node s at fresh inner))

  pub clauses : Setting → Place → ℕ → Parts → List Clause
  clauses s at fresh no_part = []
  clauses s at fresh (part_then part more) =
      clause s at fresh part ∷ clauses s at (fresh + slashes_in (part_then part no_part)) more

  pub group_nodes : Setting → Place → ℕ → Groups → List Node
  group_nodes s at fresh no_group = []
  group_nodes s at fresh (group_then body more) =
      group (clauses s at fresh body) ∷ group_nodes s at (fresh + slashes_in body) more

  pub select_node : Setting → Place → ℕ → Selection → Node
  select_node s at fresh (selection distinct star items body grouped keys having aggregates) =
      selected s.names (selection distinct star items body grouped keys having aggregates) (group (clauses s at fresh body))
